-- The loop of `record::judge::conns_ok`: ok says whether the first connections are.
use Prim.Native.Nat.{◌≤◌}
use mathlib.Core.Path.{◌≡◌}
use Rattle.record.proofs.Judging.{oks_to}
use Rattle.record.proofs.judge.conns_ok.Given as goal

abbrev pub invariant-loop-c : goal.invariant-loop-c
invariant-loop-c l = (l.c-index ≤ 5) × (l.ok ≡ oks_to l.fn.conns l.c-index)
