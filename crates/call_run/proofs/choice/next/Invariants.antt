-- The loop of `call_run::choice::next`: the first possible of those that are left is the first of all.
use Rattle.std.proofs.Common.{◌≡◌, drop}
use Rattle.views.specs.View.{view}
use Rattle.model.specs.Press.{moves, first_of}
use Rattle.call_run.proofs.choice.next.Given as goal

abbrev pub invariant-loop-m : goal.invariant-loop-m
invariant-loop-m l = first_of (drop l.m-index moves) (view l.area l.r) ≡ first_of moves (view l.area l.r)
