-- The loop of `config::set::names_known`.
use Prim.Native.Nat.{◌+◌, ◌*◌, ◌≤◌}
use mathlib.Core.Path.{◌≡◌}
use Rattle.config.specs.Commands.{param_at, names_known}
use Rattle.config.proofs.set.names_known.Given as goal

abbrev pub invariant-loop : goal.invariant-loop
invariant-loop l = (l.found ≡ names_known l.m l.counter) × (l.at ≡ param_at l.m l.counter) × (l.at ≤ 1 + 257 * l.counter)
