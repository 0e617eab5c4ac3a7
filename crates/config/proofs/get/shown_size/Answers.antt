-- `config::get::shown_size` meets its contract. The loop's invariant: size is how many octets the first i take.
use native.Mathlib.Omega.{arith}
use native.Mathlib.Numerals.{add-one}
use mathlib.Core.Path.{refl, ◌∙◌, ap}
use lib.ListN.{length, length-append}
use Rattle.config.specs.Table.{row_of}
use Rattle.config.specs.Stored.{value_of}
use Rattle.config.specs.Commands.{asked_in, shown_one, shown_in}
use Rattle.config.proofs.Lists.{value_short}
use Rattle.config.proofs.get.shown_size.Goals as goal

pub loop-i-init : goal.loop-i-init
unfolding shown_in
loop-i-init c = (refl, omega arith)

pub loop-i-preserved : goal.loop-i-preserved
unfolding shown_in
loop-i-preserved c =
    let a = c.args in
    let i = c.loop-i.i in
    let row = row_of (asked_in a.m.now i) in
    let v = ap length (c.value_of.ensures ∙ (λ k. value_of a.b.now (row_of (c.octet_at.ensures k)))) in
    let e = length-append (shown_in a.b.now a.m.now i) (shown_one a.b.now (asked_in a.m.now i)) in (
      rw (add-one i) (omega arith),
      omega (arith, value_short a.b.now row),
    )
