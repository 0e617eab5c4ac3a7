-- `sheet::show::put_front` meets its contract.
use mathlib.Core.List.{◌++◌}
use mathlib.Core.Path.{ap, ◌∙◌}
use Prim.Native.Nat.{ℕ}
use Rattle.ascii.specs.Digits.{decimal_of}
use Rattle.sheet.specs.Show.{ans_label, drop_label}
use Rattle.ascii.proofs.Writing.{wrote_text, wrote_then}
use Rattle.sheet.proofs.show.put_front.Goals as goal

pub returns : goal.returns
returns c =
    wrote_then _ _
    (wrote_then _ _ c.put_event-n.ensures (wrote_text (ap (λ (n : ℕ). ans_label ++ decimal_of n) (c.from.ensures ∙ c.answer.ensures)) c.put_number-n.ensures))
    (wrote_text (ap (λ (n : ℕ). drop_label ++ decimal_of n) (c.from-2.ensures ∙ c.dropped.ensures)) c.put_number.ensures)
