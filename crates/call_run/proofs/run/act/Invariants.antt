-- The loop of `call_run::run::act`: going on from here comes to what the whole press comes to.
use mathlib.Core.Path.{◌≡◌}
use Rattle.calls.specs.Run.{moves_on, unmoved, all_moved}
use Rattle.call_run.proofs.Turns.{press_from}
use Rattle.call_run.proofs.run.act.Given as goal

abbrev pub invariant-loop-made : goal.invariant-loop-made
invariant-loop-made l = press_from l.made l.dropped l.last l.area l.out ≡ all_moved (moves_on l.initial.area l.initial.out) (unmoved l.initial.area l.initial.out)
