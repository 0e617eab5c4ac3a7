-- `ascii::fields::value` meets its contract.
use Prim.Native.Nat.{◌+◌}
use mathlib.Core.Path.{sym, ◌∙◌}
use lib.ListN.{length}
use Rattle.octets.specs.Octets.{cut}
use Rattle.ascii.proofs.Lines.{field_rest, value_named}
use Rattle.ascii.proofs.fields.value.Goals as goal

pub returns : goal.returns
returns c =
    let a = c.args in
    let line = a.line.now in
    let name = a.name.now in
    c.window.ensures
    ∙ (λ i. cut (length name + 1) (length line) (c.first.ensures i))
    ∙ field_rest (length name + 1) line
    ∙ sym (value_named name line (sym c.has.ensures ∙ c.if-not-has.false))
