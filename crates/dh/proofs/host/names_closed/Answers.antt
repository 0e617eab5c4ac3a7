-- `dh::host::names_closed` meets its contract. The loop's invariant: the answer so far is that of the entries passed.
use mathlib.Core.Path.{refl}
use native.Mathlib.Numerals.{add-one}
use Rattle.dh.specs.Host.{names_closed}
use Rattle.dh.proofs.host.names_closed.Goals as goal

pub loop-i-init : goal.loop-i-init
unfolding names_closed
loop-i-init c = refl

pub loop-i-preserved : goal.loop-i-preserved
unfolding names_closed
loop-i-preserved c =
    let h = c.loop-i in
    rw (add-one h.i, c.held_open.ensures, c.octet_at-id.ensures, h.invariant)
