-- The loop of `wires::up::credits_up`: the sum is that of the packets passed, and at most 255 for each.
use Prim.Native.Nat.{◌*◌, ◌≤◌}
use mathlib.Core.Path.{◌≡◌}
use Rattle.area.specs.Ring.{packets_from}
use Rattle.wires.specs.Counted.{counted_up}
use Rattle.wires.proofs.up.credits_up.Given as goal

abbrev pub invariant-loop-i : goal.invariant-loop-i
invariant-loop-i l = (l.sum ≤ 255 * l.i) × (l.sum ≡ counted_up l.conn (packets_from l.base 16 l.area l.r.head l.i))
