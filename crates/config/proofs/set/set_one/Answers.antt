-- `config::set::set_one` meets its contract.
use mathlib.Core.Path.{sym, ◌∙◌}
use native.Mathlib.Omega.{arith}
use borrow.Author.Tests.{eqb-true, eqb-false}
use Rattle.config.proofs.Rows.{found_fits, found_short, found_least}
use Rattle.config.proofs.Lists.{acceptable_short, set_default, set_value, set_invalid}
use Rattle.config.proofs.set.set_one.Goals as goal

pub put_default-requires : goal.put_default-requires
put_default-requires c =
    let k = sym c.row_of.ensures ∙ c.in-Some.is in
    (found_fits c.args.id c.in-Some.r k, found_least c.args.id c.in-Some.r k, found_short c.args.id c.in-Some.r k)

pub returns-then-is_empty : goal.returns-then-is_empty
returns-then-is_empty c =
    let a = c.args in
    let k = sym c.row_of.ensures ∙ c.in-Some.is in
    c.put_default.ensures ∙ sym (set_default a.id c.in-Some.r a.v.now a.b.now k (eqb-true _ _ (sym c.is_empty.ensures ∙ c.if-is_empty.true)))

pub put_value-requires : goal.put_value-requires
put_value-requires c =
    let k = sym c.row_of.ensures ∙ c.in-Some.is in
    let ok = sym c.acceptable.ensures ∙ c.if-acceptable.true in
    (omega (arith, found_fits c.args.id c.in-Some.r k), acceptable_short _ _ ok, found_short c.args.id c.in-Some.r k)

pub returns-then-acceptable : goal.returns-then-acceptable
returns-then-acceptable c =
    let a = c.args in
    let k = sym c.row_of.ensures ∙ c.in-Some.is in
    let full = eqb-false _ _ (sym c.is_empty.ensures ∙ c.if-is_empty.false) in
    c.put_value.ensures ∙ sym (set_value a.id c.in-Some.r a.v.now a.b.now k full (sym c.acceptable.ensures ∙ c.if-acceptable.true))

pub returns-else-acceptable : goal.returns-else-acceptable
returns-else-acceptable c =
    let a = c.args in
    let k = sym c.row_of.ensures ∙ c.in-Some.is in
    let full = eqb-false _ _ (sym c.is_empty.ensures ∙ c.if-is_empty.false) in
    sym (set_invalid a.id c.in-Some.r a.v.now a.b.now k full (sym c.acceptable.ensures ∙ c.if-acceptable.false))
