-- The loop of `dh::contents::entries_ok`.
use mathlib.Core.Path.{◌≡◌}
use Rattle.dh.specs.Contents.{entries_ok}
use Rattle.dh.proofs.contents.entries_ok.Given as goal

abbrev pub invariant-loop-i : goal.invariant-loop-i
invariant-loop-i l = l.all ≡ entries_ok l.m l.i
