-- `ascii::write::put_decimal` meets its contract: the end of five digits is written.
use Prim.Native.Nat.{◌-◌}
use mathlib.Core.Path.{◌∙◌}
use mathlib.Core.List.{[], ◌∷◌}
use native.Mathlib.Omega.{arith}
use lib.ListN.{take, drop}
use Rattle.ascii.proofs.Digits.{leading_few, decimal_end}
use Rattle.ascii.proofs.Writing.{wrote_text}
use Rattle.ascii.proofs.write.put_decimal.Goals as goal

pub slice_bounds-put-count : goal.slice_bounds-put-count
slice_bounds-put-count c = omega (arith, c.leading-from.ensures, leading_few c.args.n)

pub slice_bounds-put-start : goal.slice_bounds-put-start
slice_bounds-put-start c = omega (arith, c.leading-from.ensures, leading_few c.args.n)

pub returns : goal.returns
returns c =
    let lead = c.leading-from.ensures in
    wrote_text
    ((λ i.
    take (5 - lead i)
    (drop (lead i)
    (c.figure.ensures i
    ∷ c.figure-2.ensures i
    ∷ c.figure-3.ensures i
    ∷ c.figure-4.ensures i
    ∷ c.figure-5.ensures i
    ∷ [])))
    ∙ decimal_end _)
    c.put.ensures
