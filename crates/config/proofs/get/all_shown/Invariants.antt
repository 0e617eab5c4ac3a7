-- The loop of `config::get::all_shown`.
use Prim.Native.Nat.{◌+◌}
use mathlib.Core.Path.{◌≡◌}
use lib.ListN.{length}
use Rattle.octets.specs.Octets.{splice}
use Rattle.config.specs.Commands.{shown_in}
use Rattle.config.proofs.get.all_shown.Given as goal

abbrev pub invariant-loop-i : goal.invariant-loop-i
invariant-loop-i l = (l.out ≡ splice l.initial.out 2 (shown_in l.b l.m l.i)) × (l.to ≡ 2 + length (shown_in l.b l.m l.i))
