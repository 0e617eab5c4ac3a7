-- `config::get::all_unavailable` meets its contract. The loop's invariant: those of the first i that are not known are written, up to index to.
use native.Mathlib.Omega.{arith}
use native.Mathlib.Numerals.{add-one}
use Prim.Native.Nat.{suc, ◌+◌, ◌≤◌}
use mathlib.Core.Path.{◌≡◌, refl, sym, ◌∙◌, ap}
use lib.ListN.{length}
use lib.ListN.{length-append}
use Rattle.octets.specs.Octets.{splice}
use Rattle.octets.proofs.Octets.{splice_nil, length_splice}
use Rattle.config.specs.Commands.{asked_in, unavailable_one, unavailable_in}
use Rattle.config.proofs.Lists.{grown, unavailable_grows}
use Rattle.config.proofs.get.all_unavailable.Goals as goal

pub loop-i-init : goal.loop-i-init
unfolding unavailable_in
loop-i-init c = (sym (splice_nil _ _), refl)

pub put_unavailable-to-requires : goal.put_unavailable-to-requires
unfolding unavailable_in
put_unavailable-to-requires c =
    let a = c.args in
    let i = c.loop-i.i in
    let more : suc i ≤ a.n = omega arith in
    let fits = unavailable_grows a.m.now (suc i) a.n more in
    let one = ap (λ x. length (unavailable_one x)) c.octet_at.ensures in
    let long = ap length c.loop-i.invariant.0 ∙ length_splice _ _ _ in
    let e = length-append (unavailable_in a.m.now i) (unavailable_one (asked_in a.m.now i)) in
    omega arith

pub loop-i-preserved : goal.loop-i-preserved
unfolding unavailable_in
loop-i-preserved c =
    let id = c.octet_at.ensures in
    let a = c.args in
    let i = c.loop-i.i in
    let more = grown a.out.now _ (unavailable_in a.m.now i) _ _ _ _ c.loop-i.invariant.0 c.loop-i.invariant.1
    (c.put_unavailable-to.ensures.octets ∙ (λ k. splice c.loop-i.out c.loop-i.to (unavailable_one (id k))))
    (c.put_unavailable-to.ensures.next ∙ (λ k. c.loop-i.to + length (unavailable_one (id k)))) in
    rw (add-one i) (more.0, more.1)

pub returns : goal.returns
returns c =
    let a = c.args in
    let all : c.loop-i.i ≡ a.n = omega arith in record { octets = c.loop-i.invariant.0 ∙ (λ k. splice a.out.now 2 (unavailable_in a.m.now (all k))); next = c.loop-i.invariant.1 ∙ (λ k. 2 + length (unavailable_in a.m.now (all k))) }
