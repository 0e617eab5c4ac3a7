-- `config::stored::put_value` meets its contract.
use native.Mathlib.Omega.{arith}
use mathlib.Core.Path.{◌∙◌, ap}
use Rattle.config.specs.Stored.{form_of, with_value}
use Prim.Native.Nat.{◌+◌}
use Rattle.config.proofs.Forms.{none_of}
use Rattle.octets.specs.Octets.{splice}
use Rattle.config.proofs.stored.put_value.Goals as goal

pub returns : goal.returns
unfolding with_value
returns c =
    let a = c.args in
    c.put_form.ensures ∙ ap (λ x. splice x a.r.at (form_of a.r a.v.now)) (c.put.ensures ∙ ap (splice a.b.now a.r.at) (none_of 16 _ _ (omega (arith, c.lead-before.ensures.upper_bound)) (ap (λ n. n + a.r.most) c.lead-before.ensures.value)))
