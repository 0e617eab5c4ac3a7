-- `dh::host::credits_for` meets its contract. The loop's invariant: the sum is that of the entries passed, and at most 255 for each.
use mathlib.Core.Path.{refl}
use native.Mathlib.Numerals.{add-one}
use borrow.Author.Rules.{rules}
use Rattle.dh.specs.Host.{credits_in}
use Rattle.dh.proofs.host.credits_for.Goals as goal

pub loop-i-init : goal.loop-i-init
unfolding credits_in
loop-i-init c = (refl, search rules)

pub loop-i-preserved : goal.loop-i-preserved
unfolding credits_in
loop-i-preserved c =
    let h = c.loop-i in (
      rw (add-one h.i, c.entry_for.ensures, h.invariant.0),
      search rules,
    )
