-- The loop of `config::written::values_written`.
use Prim.Native.Nat.{◌+◌, ◌*◌, ◌≤◌}
use mathlib.Core.Path.{◌≡◌}
use Rattle.config.specs.Commands.{param_at}
use Rattle.config.specs.Written.{values_written}
use Rattle.config.proofs.written.values_written.Given as goal

abbrev pub invariant-loop : goal.invariant-loop
invariant-loop l = (l.ok ≡ values_written l.m l.counter) × (l.at ≡ param_at l.m l.counter) × (l.at ≤ 1 + 257 * l.counter)
