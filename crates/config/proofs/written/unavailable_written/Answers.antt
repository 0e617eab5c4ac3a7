-- `config::written::unavailable_written` meets its contract. The loop's invariant: ok says whether the first i entries are such.
use native.Mathlib.Omega.{arith}
use native.Mathlib.Numerals.{add-one}
use mathlib.Core.Path.{◌≡◌, refl, ◌∙◌, ap}
use mathlib.Core.Bool.{Bool, true, false, ◌&&◌, not}
use lib.Dec.{eqb}
use Rattle.config.specs.Table.{row_of, known_row}
use Rattle.config.specs.Written.{unavailable_written}
use Rattle.config.proofs.written.unavailable_written.Goals as goal

-- what `is_none` says
none_law : (some none : Bool) → some ≡ not none → none ≡ not some
none_law some true e = rw e refl
none_law some false e = rw e refl

pub loop-i-init : goal.loop-i-init
unfolding unavailable_written
loop-i-init c = refl

pub loop-i-preserved : goal.loop-i-preserved
unfolding unavailable_written
loop-i-preserved c =
    let row = c.row_of.ensures ∙ ap row_of c.octet_at.ensures in
    let unknown = none_law _ _ c.is_none-unknown.ensures ∙ ap (λ x. not (known_row x)) row in
    rw (add-one c.loop-i.i) (λ k. c.loop-i.invariant k && (unknown k && eqb (c.octet_at-none.ensures k) 0x00))

pub returns : goal.returns
returns c =
    let a = c.args in
    let all : c.loop-i.i ≡ a.n = omega arith in
    c.loop-i.invariant ∙ ap (unavailable_written a.m.now) all
