-- `dh::contents::zeros` meets its contract. The loop's invariant: the answer so far is that of the octets passed.
use mathlib.Core.Path.{refl}
use native.Mathlib.Numerals.{add-one}
use Rattle.dh.specs.Contents.{zeros}
use Rattle.dh.proofs.contents.zeros.Goals as goal

pub loop-k-init : goal.loop-k-init
unfolding zeros
loop-k-init c = refl

pub loop-k-preserved : goal.loop-k-preserved
unfolding zeros
loop-k-preserved c =
    let h = c.loop-k in
    rw (add-one h.k, c.octet_at.ensures, h.invariant)
