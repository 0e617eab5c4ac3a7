-- The loop of `config::written::unavailable_written`.
use mathlib.Core.Path.{◌≡◌}
use Rattle.config.specs.Written.{unavailable_written}
use Rattle.config.proofs.written.unavailable_written.Given as goal

abbrev pub invariant-loop-i : goal.invariant-loop-i
invariant-loop-i l = l.ok ≡ unavailable_written l.m l.i
