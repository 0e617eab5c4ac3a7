-- The loop of `record::judge::conns_known`: known says whether the first k connections' tags are.
use Prim.Native.Nat.{◌≤◌}
use mathlib.Core.Path.{◌≡◌}
use Rattle.record.proofs.Judging.{known_to}
use Rattle.record.proofs.judge.conns_known.Given as goal

abbrev pub invariant-loop-k : goal.invariant-loop-k
invariant-loop-k l = (l.k ≤ 5) × (l.known ≡ known_to l.s l.at l.k)
