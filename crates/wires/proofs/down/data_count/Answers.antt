-- `wires::down::data_count` meets its contract.
use mathlib.Core.Path.{ap, ◌∙◌}
use native.Mathlib.Omega.{arith}
use borrow.Author.Rules.{rules}
use Rattle.octets.specs.Octets.{Octets, pick}
use Rattle.area.specs.Ring.{trim}
use Rattle.wires.proofs.Counting.{data_one, data_count_first, data_count_turn, one_if}
use Rattle.wires.proofs.down.data_count.Goals as goal

pub loop-i-init : goal.loop-i-init
loop-i-init c = (omega arith, data_count_first _ _ _ _)

pub loop-i-preserved : goal.loop-i-preserved
loop-i-preserved c =
    let l = c.loop-i in
    let one =
    one_if c.is_data_for.result ∙ (λ j. pick (c.is_data_for.ensures j) 1 0)
    ∙ ap (λ (s : Octets). data_one c.args.conn (trim s)) c.nth_slot.ensures in
    (search rules, data_count_turn _ _ _ _ l.i _ _ l.invariant.1 one)
