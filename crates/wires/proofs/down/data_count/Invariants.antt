-- The loop of `wires::down::data_count`: n is the count of the packets passed, and at most one for each.
use Prim.Native.Nat.{◌≤◌}
use mathlib.Core.Path.{◌≡◌}
use Rattle.area.specs.Ring.{packets_from}
use Rattle.wires.specs.Tally.{data_count}
use Rattle.wires.proofs.down.data_count.Given as goal

abbrev pub invariant-loop-i : goal.invariant-loop-i
invariant-loop-i l = (l.n ≤ l.i) × (l.n ≡ data_count l.conn (packets_from l.base 16 l.area l.r.head l.i))
