-- The loop of `config::set::list_end`.
use Prim.Native.Nat.{◌+◌, ◌*◌, ◌≤◌}
use mathlib.Core.Path.{◌≡◌}
use Rattle.config.specs.Commands.{param_at}
use Rattle.config.proofs.set.list_end.Given as goal

abbrev pub invariant-loop : goal.invariant-loop
invariant-loop l = (l.at ≡ param_at l.m l.counter) × (l.at ≤ 1 + 257 * l.counter)
