-- The loop of `config::set::set_rsp`.
use Prim.Native.Nat.{◌+◌, ◌*◌, ◌≤◌}
use mathlib.Core.Path.{◌≡◌}
use lib.ListN.{length}
use Rattle.octets.specs.Octets.{splice}
use Rattle.config.specs.Commands.{param_at, invalid_in}
use Rattle.config.proofs.set.set_rsp.Given as goal

abbrev pub invariant-loop : goal.invariant-loop
invariant-loop l = (l.out ≡ splice l.initial.out 2 (invalid_in l.m l.counter)) × (l.to ≡ 2 + length (invalid_in l.m l.counter)) × (l.at ≡ param_at l.m l.counter) × (l.at ≤ 1 + 257 * l.counter)
