-- The loop of `config::get::shown_size`.
use Prim.Native.Nat.{◌*◌, ◌≤◌}
use mathlib.Core.Path.{◌≡◌}
use lib.ListN.{length}
use Rattle.config.specs.Commands.{shown_in}
use Rattle.config.proofs.get.shown_size.Given as goal

abbrev pub invariant-loop-i : goal.invariant-loop-i
invariant-loop-i l = (l.size ≡ length (shown_in l.b l.m l.i)) × (l.size ≤ 32 * l.i)
