-- `config::get::put_shown` meets its contract.
use native.Mathlib.Omega.{arith}
use Prim.Native.Nat.{◌+◌}
use mathlib.Core.Path.{◌∙◌, ap}
use mathlib.Core.List.{[], ◌∷◌}
use lib.ListN.{length}
use Rattle.octets.specs.Octets.{splice}
use Rattle.octets.proofs.Octets.{splice_next, length_splice}
use Rattle.config.specs.Table.{row_of}
use Rattle.config.specs.Stored.{value_of}
use Rattle.config.proofs.Lists.{value_short}
use Rattle.config.proofs.get.put_shown.Goals as goal

pub overflow_cast-n : goal.overflow_cast-n
overflow_cast-n c = omega (arith, ap length c.value_of-v.ensures, value_short c.args.b.now (row_of c.args.id))

pub put-requires-2 : goal.put-requires-2
put-requires-2 c =
    let long = ap length c.put.ensures ∙ length_splice _ _ _ in
    omega (arith, long, ap length c.value_of-v.ensures, c.requires.0)

pub returns : goal.returns
returns c =
    let a = c.args in
    let e = c.value_of-v.ensures in
    let at = a.at in
    let v = value_of a.b.now (row_of a.id) in record {
      octets = c.put-2.ensures
          ∙ (λ k. splice (c.put.ensures k) (at + 2) (e k))
          ∙ (λ k. splice (splice a.out.now at (a.id ∷ length (e k) ∷ [])) (at + 2) v)
          ∙ splice_next a.out.now at (a.id ∷ length v ∷ []) v;
      next = omega (arith, ap length e);
    }
