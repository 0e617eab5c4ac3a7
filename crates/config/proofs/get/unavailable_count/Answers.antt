-- `config::get::unavailable_count` meets its contract. The loop's invariant: unavailable is how many of the first i are not known.
use native.Mathlib.Omega.{arith}
use native.Mathlib.Numerals.{add-one}
use Prim.Native.Nat.{◌+◌}
use mathlib.Core.Path.{refl, ◌∙◌, ap}
use Rattle.octets.specs.Octets.{pick}
use Rattle.config.specs.Table.{row_of, known_row}
use Rattle.config.specs.Commands.{asked_in, unavailable_count}
use Rattle.config.proofs.Lists.{at_most_one}
use Rattle.config.proofs.get.unavailable_count.Goals as goal

pub loop-i-init : goal.loop-i-init
unfolding unavailable_count
loop-i-init c = (refl, omega arith)

pub loop-i-preserved : goal.loop-i-preserved
unfolding unavailable_count
loop-i-preserved c =
    let m = c.args.m.now in
    let known = c.choose.ensures ∙ (λ k. pick (c.is_some.ensures k) 0 1) ∙ ap (λ x. pick (known_row x) 0 1) (c.row_of-r.ensures ∙ ap row_of c.octet_at.ensures) in (
      rw (add-one c.loop-i.i) (λ k. c.loop-i.invariant.0 k + known k),
      omega (arith, at_most_one (known_row (row_of (asked_in m c.loop-i.i)))),
    )
