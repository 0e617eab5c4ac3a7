-- `dh::contents::entries_ok` meets its contract. The loop's invariant: the answer so far is that of the entries passed.
use mathlib.Core.Path.{refl}
use native.Mathlib.Numerals.{add-one}
use Rattle.dh.specs.Contents.{entries_ok}
use Rattle.dh.proofs.contents.entries_ok.Goals as goal

pub loop-i-init : goal.loop-i-init
unfolding entries_ok
loop-i-init c = refl

pub loop-i-preserved : goal.loop-i-preserved
unfolding entries_ok
loop-i-preserved c =
    let h = c.loop-i in
    rw (add-one h.i, c.ascends.ensures, c.entry_ok.ensures, h.invariant)
