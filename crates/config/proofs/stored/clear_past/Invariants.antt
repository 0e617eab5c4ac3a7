-- The loop of `config::stored::clear_past`.
use Prim.Native.Nat.{◌+◌, ◌-◌}
use mathlib.Core.Path.{◌≡◌}
use Rattle.config.specs.Stored.{zeros}
use Rattle.config.proofs.stored.clear_past.Given as goal

abbrev pub invariant-loop-k : goal.invariant-loop-k
invariant-loop-k l = l.all ≡ zeros l.b (l.i + l.n) (l.k - l.n)
