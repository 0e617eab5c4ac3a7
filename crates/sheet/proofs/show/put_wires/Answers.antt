-- `sheet::show::put_wires` meets its contract.
use Prim.Native.Nat.{ℕ}
use mathlib.Core.Path.{sym, ap}
use Rattle.ascii.specs.Digits.{hex_of}
use Rattle.ascii.proofs.Digits.{hex_append}
use Rattle.ascii.proofs.Writing.{wrote_text, wrote_then}
use Rattle.sheet.specs.Show.{wire_shown}
use Rattle.sheet.proofs.show.put_wires.Goals as goal

pub returns : goal.returns
returns c =
    let area = c.args.area.now in
    wrote_text (sym (hex_append _ _))
    (wrote_then _ _
    (wrote_text (ap (λ (n : ℕ). hex_of (wire_shown 0 n area)) c.down.ensures) c.put_wire-n.ensures)
    (wrote_text (ap (λ (n : ℕ). hex_of (wire_shown 1 n area)) c.up.ensures) c.put_wire.ensures))
