-- `config::stored::put_form` meets its contract.
use borrow.Author.Tests.{eq-eqb, ne_eqb}
use native.Mathlib.Omega.{arith}
use Prim.Native.Nat.{◌+◌}
use mathlib.Core.Path.{◌≡◌, ◌∙◌, ap}
use mathlib.Core.List.{[], ◌∷◌}
use lib.ListN.{length}
use Rattle.octets.specs.Octets.{splice}
use Rattle.octets.proofs.Octets.{splice_next, length_splice}
use Rattle.config.proofs.stored.put_form.Goals as goal

pub returns-then-r : goal.returns-then-r
returns-then-r c = rw (eq-eqb _ _ c.if-r.true) c.put.ensures

pub put-requires-2 : goal.put-requires-2
put-requires-2 c =
    let varies = ne_eqb _ _ c.if-r.false in
    let roomy = rw varies at c.requires.0 in omega arith

pub put-requires-3 : goal.put-requires-3
put-requires-3 c =
    let varies = ne_eqb _ _ c.if-r.false in
    let roomy = rw varies at c.requires.0 in
    let long : length c.put-2.new.dst ≡ length c.args.b.now = ap length c.put-2.ensures ∙ length_splice _ _ _ in
    omega arith

pub returns : goal.returns
returns c =
    let varies = ne_eqb _ _ c.if-r.false in
    let a = c.args in
    rw varies
    (c.put-3.ensures ∙ ap (λ x. splice x (a.r.at + 1) a.v.now) c.put-2.ensures
    ∙ splice_next a.b.now a.r.at (length a.v.now ∷ []) a.v.now)
