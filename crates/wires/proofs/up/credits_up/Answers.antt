-- `wires::up::credits_up` meets its contract.
use mathlib.Core.Path.{ap, ◌∙◌}
use native.Mathlib.Omega.{arith}
use borrow.Author.Rules.{rules}
use Rattle.octets.specs.Octets.{Octets}
use Rattle.area.specs.Ring.{trim}
use Rattle.wires.specs.Counted.{counted_on}
use Rattle.wires.proofs.Counting.{counted_up_first, counted_up_turn}
use Rattle.wires.proofs.up.credits_up.Goals as goal

pub loop-i-init : goal.loop-i-init
loop-i-init c = (omega arith, counted_up_first _ _ _ _)

pub loop-i-preserved : goal.loop-i-preserved
loop-i-preserved c =
    let l = c.loop-i in
    let one = c.credits_on.ensures ∙ ap (λ (s : Octets). counted_on c.args.conn (trim s)) c.nth_slot.ensures in
    (search rules, counted_up_turn _ _ _ _ l.i _ _ l.invariant.1 one)
