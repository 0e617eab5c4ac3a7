-- The loop of `dh::contents::zeros`.
use mathlib.Core.Path.{◌≡◌}
use Rattle.dh.specs.Contents.{zeros}
use Rattle.dh.proofs.contents.zeros.Given as goal

abbrev pub invariant-loop-k : goal.invariant-loop-k
invariant-loop-k l = l.all ≡ zeros l.m l.i l.k
