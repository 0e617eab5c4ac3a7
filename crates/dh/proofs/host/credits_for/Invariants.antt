-- The loop of `dh::host::credits_for`.
use Prim.Native.Nat.{◌≤◌, ◌*◌}
use mathlib.Core.Path.{◌≡◌}
use Rattle.dh.specs.Host.{credits_in}
use Rattle.dh.proofs.host.credits_for.Given as goal

abbrev pub invariant-loop-i : goal.invariant-loop-i
invariant-loop-i l = (l.sum ≡ credits_in l.m l.i l.conn) × (l.sum ≤ 255 * l.i)
