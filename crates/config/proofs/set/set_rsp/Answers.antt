-- `config::set::set_rsp` meets its contract. The loop's invariant: at is where parameter i stands, and the invalid ones before it are written, up to index to.
use native.Mathlib.Omega.{arith}
use native.Mathlib.Numerals.{add-one}
use Prim.Native.Nat.{◌+◌, ◌≤◌, ◌-◌}
use mathlib.Core.Path.{◌≡◌, refl, sym, ◌∙◌, ap}
use mathlib.Core.List.{[], ◌∷◌}
use lib.ListN.{length, set}
use lib.Dec.{eqb}
use Rattle.octets.specs.Octets.{pick, splice}
use Rattle.octets.proofs.Octets.{splice_nil, length_splice}
use Rattle.config.specs.Commands.{param_at, count_in, accepted, invalid_in}
use Rattle.config.proofs.Lists.{param_read, param_far, invalid_few, grown, ahead_two}
use Rattle.config.proofs.set.set_rsp.Goals as goal
use Rattle.config.proofs.set.set_rsp.Goals.{At-loop}

-- a whole list has at most 127 parameters
few : (c : At-loop) → c.octet_at-end.result ≤ 127
few c =
    omega (arith, c.octet_at-end.ensures, c.requires, param_far c.args.m.now (count_in c.args.m.now))

pub loop-init : goal.loop-init
unfolding param_at invalid_in
loop-init c = (sym (splice_nil _ _), refl, refl, omega arith)

pub put_id-to-requires : goal.put_id-to-requires
put_id-to-requires c =
    let m = c.args.m.now in
    let roomy = ap length c.loop.invariant.0 ∙ length_splice _ _ _ in
    omega (arith, roomy, few (goal.at.put_id-to-requires c).At-loop, invalid_few m c.loop.counter)

pub loop-preserved : goal.loop-preserved
unfolding invalid_in
loop-preserved c =
    let i = c.loop.counter in
    let a = c.args in
    let m = a.m.now in
    let p = c.param_at-p.ensures in
    let r = param_read m _ i _ _ _ c.loop.invariant.2 p.id p.value p.next in
    let ok = c.is_accepted.ensures ∙ (λ k. accepted (r.id_is k) (r.value_is k)) in
    let more = grown a.out.now _ (invalid_in m i) _ _ _ _ c.loop.invariant.0 c.loop.invariant.1
    (c.put_id-to.ensures.octets ∙ (λ j. splice c.loop.out c.loop.to (pick (ok j) [] (r.id_is j ∷ []))))
    (c.put_id-to.ensures.next ∙ (λ j. c.loop.to + length (pick (ok j) [] (r.id_is j ∷ [])))) in
    rw (add-one i) (more.0, more.1, r.next_is, omega arith)

pub overflow_sub-invalid : goal.overflow_sub-invalid
overflow_sub-invalid c = omega arith

pub overflow_cast-invalid : goal.overflow_cast-invalid
overflow_cast-invalid c = omega (arith, few (goal.at.overflow_cast-invalid c).At-loop, invalid_few c.args.m.now c.loop.counter)

pub returns : goal.returns
returns c =
    let a = c.args in
    let m = a.m.now in
    let turns : c.loop.counter ≡ c.octet_at-end.result = omega arith in
    let all : c.loop.counter ≡ count_in m = turns ∙ c.octet_at-end.ensures in
    let to : c.loop.to ≡ 2 + length (invalid_in m (count_in m)) = c.loop.invariant.1 ∙ (λ j. 2 + length (invalid_in m (all j))) in
    let ids : c.loop.to - 2 ≡ length (invalid_in m (count_in m)) = omega arith in
    let status = c.choose.ensures ∙ (λ j. pick (eqb (ids j) 0) 0x00 0x09) in record { octets = (λ j. set (set ((c.loop.invariant.0 ∙ (λ k. splice a.out.now 2 (invalid_in m (all k)))) j) 1 (ids j)) 0 (status j)) ∙ ahead_two _ _ _ _; length = omega arith }
