-- `config::get::all_shown` meets its contract. The loop's invariant: the first i are written, up to index to.
use native.Mathlib.Omega.{arith}
use native.Mathlib.Numerals.{add-one}
use Prim.Native.Nat.{suc, ◌+◌, ◌≤◌}
use mathlib.Core.Path.{◌≡◌, refl, sym, ◌∙◌, ap}
use lib.ListN.{length}
use lib.ListN.{length-append}
use Rattle.octets.specs.Octets.{splice}
use Rattle.octets.proofs.Octets.{splice_nil, length_splice}
use Rattle.config.specs.Commands.{asked_in, shown_one, shown_in}
use Rattle.config.proofs.Lists.{grown, shown_grows}
use Rattle.config.proofs.get.all_shown.Goals as goal

pub loop-i-init : goal.loop-i-init
unfolding shown_in
loop-i-init c = (sym (splice_nil _ _), refl)

pub put_shown-to-requires : goal.put_shown-to-requires
unfolding shown_in
put_shown-to-requires c =
    let a = c.args in
    let i = c.loop-i.i in
    let more : suc i ≤ a.n = omega arith in
    let fits = shown_grows a.b.now a.m.now (suc i) a.n more in
    let one = ap (λ x. length (shown_one a.b.now x)) c.octet_at.ensures in
    let long = ap length c.loop-i.invariant.0 ∙ length_splice _ _ _ in
    let e = length-append (shown_in a.b.now a.m.now i) (shown_one a.b.now (asked_in a.m.now i)) in
    (omega arith, omega arith)

pub loop-i-preserved : goal.loop-i-preserved
unfolding shown_in
loop-i-preserved c =
    let id = c.octet_at.ensures in
    let a = c.args in
    let i = c.loop-i.i in
    let more = grown a.out.now _ (shown_in a.b.now a.m.now i) _ _ _ _ c.loop-i.invariant.0 c.loop-i.invariant.1
    (c.put_shown-to.ensures.octets ∙ (λ k. splice c.loop-i.out c.loop-i.to (shown_one a.b.now (id k))))
    (c.put_shown-to.ensures.next ∙ (λ k. c.loop-i.to + length (shown_one a.b.now (id k)))) in
    rw (add-one i) (more.0, more.1)

pub returns : goal.returns
returns c =
    let a = c.args in
    let all : c.loop-i.i ≡ a.n = omega arith in record { octets = c.loop-i.invariant.0 ∙ (λ k. splice a.out.now 2 (shown_in a.b.now a.m.now (all k))); next = c.loop-i.invariant.1 ∙ (λ k. 2 + length (shown_in a.b.now a.m.now (all k))) }
