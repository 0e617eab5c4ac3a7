-- The loop of `config::set::set_all`.
use Prim.Native.Nat.{◌+◌, ◌*◌, ◌≤◌}
use mathlib.Core.Path.{◌≡◌}
use Rattle.config.specs.Commands.{param_at, set_first}
use Rattle.config.proofs.set.set_all.Given as goal

abbrev pub invariant-loop : goal.invariant-loop
invariant-loop l = (l.b ≡ set_first l.initial.b l.m l.counter) × (l.at ≡ param_at l.m l.counter) × (l.at ≤ 1 + 257 * l.counter)
