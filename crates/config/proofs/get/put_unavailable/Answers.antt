-- `config::get::put_unavailable` meets its contract.
use native.Mathlib.Omega.{arith}
use mathlib.Core.Path.{refl, sym, ◌∙◌, ap}
use Rattle.octets.proofs.Octets.{splice_nil}
use Rattle.config.specs.Table.{known_row}
use Rattle.config.proofs.get.put_unavailable.Goals as goal

pub returns-then-is_some : goal.returns-then-is_some
returns-then-is_some c =
    let known = sym (c.is_some.ensures ∙ ap known_row c.row_of.ensures) ∙ c.if-is_some.true in
    rw known record { octets = sym (splice_nil _ _); next = omega arith }

pub put-requires : goal.put-requires
put-requires c =
    let unknown = sym (c.is_some.ensures ∙ ap known_row c.row_of.ensures) ∙ c.if-is_some.false in
    rw unknown at c.requires

pub returns : goal.returns
returns c =
    let unknown = sym (c.is_some.ensures ∙ ap known_row c.row_of.ensures) ∙ c.if-is_some.false in
    rw unknown record { octets = c.put.ensures; next = refl }
