-- `call_bench::read::found` meets its contract: of no packet the drop flag alone.
use mathlib.Core.Path.{sym, ap, ◌∙◌}
use Rattle.packets.specs.Packet.{Reading}
use Rattle.calls.specs.Read.{found_in, found_word}
use Rattle.calls.proofs.Words.{told_none}
use Rattle.call_bench.proofs.read.found.Goals as goal

pub returns-in_default : goal.returns-in_default
returns-in_default c = c.drops.ensures ∙ sym (told_none 0) ∙ sym (ap (λ (x : Reading). found_word (found_in x)) c.in_default.is)
