-- `ascii::hex::is_hex` meets its contract.
use mathlib.Core.Path.{sym, ap, ◌∙◌}
use mathlib.Core.Bool.{Bool, ◌&&◌}
use lib.Dec.{ltb}
use borrow.Author.Tests.{eq-eqb, ne_eqb}
use Rattle.std.proofs.Common.{rules, tests}
use Rattle.std.proofs.lemmas.Iterator.{YieldsList-from_slice}
use Rattle.std.proofs.lemmas.Iterator.Search.{all_from_yields_List}
use Rattle.ascii.specs.Digits.{value_of, all_digits, is_hex}
use Rattle.ascii.proofs.Digits.{digits_all}
use Rattle.ascii.proofs.hex.is_hex.Goals as goal

pub returns-then-text-eq0 : goal.returns-then-text-eq0
unfolding is_hex
returns-then-text-eq0 c =
    let text = c.args.text.now in
    all_from_yields_List (λ x. ltb (value_of x) 16) _ _ c.all.result c.all.ensures.ran (YieldsList-from_slice text c.iter.ensures.rest) (λ x b q k. search (rules, tests))
    ∙ digits_all text
    ∙ ap (λ (t : Bool). t && all_digits text) (sym (eq-eqb _ _ c.if-text-eq0.true))

pub returns-else-text-eq0 : goal.returns-else-text-eq0
unfolding is_hex
returns-else-text-eq0 c = rw (ne_eqb _ _ c.if-text-eq0.false)
