-- `wires::down::is_data_for` meets its contract: a packet means what its header says.
use mathlib.Core.Path.{sym, ◌∙◌}
use Rattle.wires.proofs.Slots.{meaning_packet}
use Rattle.wires.proofs.Counted.{data_meant}
use Rattle.wires.proofs.down.is_data_for.Goals as goal

pub returns : goal.returns
returns c =
    let h = c.in-Some.h in
    rw (meaning_packet c.args.slot.now h c.in-Some.field-0-1 (sym c.read.ensures ∙ c.in-Some.is)) (data_meant _ h _)
