-- The loop of `record::write::store_conns`: the first k connections are stored.
use Prim.Native.Nat.{◌≤◌}
use mathlib.Core.Path.{◌≡◌}
use lib.ListN.{length}
use Rattle.record.proofs.Writing.{stored_to}
use Rattle.record.proofs.write.store_conns.Given as goal

abbrev pub invariant-loop-k : goal.invariant-loop-k
invariant-loop-k l = (l.k ≤ 5) × (length l.area ≡ length l.initial.area) × (l.area ≡ stored_to l.initial.area l.at l.conns l.k)
