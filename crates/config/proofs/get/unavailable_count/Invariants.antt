-- The loop of `config::get::unavailable_count`.
use Prim.Native.Nat.{◌≤◌}
use mathlib.Core.Path.{◌≡◌}
use Rattle.config.specs.Commands.{unavailable_count}
use Rattle.config.proofs.get.unavailable_count.Given as goal

abbrev pub invariant-loop-i : goal.invariant-loop-i
invariant-loop-i l = (l.unavailable ≡ unavailable_count l.m l.i) × (l.unavailable ≤ l.i)
