-- The loop of `area::movers::put_all`: what is still to be put, from segment k on, makes the whole.
use Prim.Native.Nat.{◌+◌}
use mathlib.Core.Path.{◌≡◌}
use mathlib.Core.List.{map}
use lib.ListN.{length, drop}
use Rattle.packets.specs.Segments.{segment_packet, segments, packets_of}
use Rattle.area.specs.Movers.{puts_all}
use Rattle.area.proofs.movers.put_all.Given as goal

abbrev pub invariant-loop-k : goal.invariant-loop-k
invariant-loop-k l = (l.q.head ≡ l.fn.r.head) × (l.q.count ≡ l.fn.r.count + l.k) × (length l.area ≡ length l.fn.area)
    × (puts_all l.base l.area l.q (map (segment_packet l.h) (drop l.k (segments l.size l.msg))) ≡ puts_all l.fn.base l.fn.area l.fn.r (packets_of l.fn.h l.fn.size l.fn.msg))
