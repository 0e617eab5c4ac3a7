-- The loop of `nfcc::controller::configs_ok`: the first i pairs are looked at.
use mathlib.Core.Path.{◌≡◌}
use Rattle.nfcc.specs.Controller.{configs_ok}
use Rattle.nfcc.proofs.controller.configs_ok.Given as goal

abbrev pub invariant-loop-i : goal.invariant-loop-i
invariant-loop-i l = l.ok ≡ configs_ok l.m l.i
