-- The loop of `config::get::all_unavailable`.
use Prim.Native.Nat.{◌+◌}
use mathlib.Core.Path.{◌≡◌}
use lib.ListN.{length}
use Rattle.octets.specs.Octets.{splice}
use Rattle.config.specs.Commands.{unavailable_in}
use Rattle.config.proofs.get.all_unavailable.Given as goal

abbrev pub invariant-loop-i : goal.invariant-loop-i
invariant-loop-i l = (l.out ≡ splice l.initial.out 2 (unavailable_in l.m l.i)) × (l.to ≡ 2 + length (unavailable_in l.m l.i))
