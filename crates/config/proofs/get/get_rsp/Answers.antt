-- `config::get::get_rsp` meets its contract: one law for each case of the response.
use native.Mathlib.Omega.{arith}
use Prim.Native.Nat.{ℕ, suc, ◌+◌, ◌≤◌, ◌<◌}
use mathlib.Core.Path.{◌≡◌, sym, ◌∙◌, ap, subst}
use lib.ListN.{length, set}
use Rattle.octets.specs.Octets.{splice}
use Rattle.config.specs.Commands.{count_in, shown_in, unavailable_in, unavailable_count}
use Rattle.config.proofs.Lists.{ahead_two, unavailable_twice, get_ok, get_long, get_unavailable, get_unavailable_long}
use Rattle.config.proofs.get.get_rsp.Goals as goal

two_more : (n : ℕ) → 2 + n ≡ suc (suc n)
two_more n = omega arith

pub returns-then-shown_size-gt253 : goal.returns-then-shown_size-gt253
returns-then-shown_size-gt253 c =
    let n = c.octet_at-n.ensures in
    let a = c.args in
    let m = a.m.now in
    let none : unavailable_count m (count_in m) ≡ 0 = sym (c.unavailable_count-unavailable.ensures.0 ∙ ap (unavailable_count m) n) ∙ c.if-unavailable-eq0.true in
    let size = c.shown_size.ensures ∙ (λ k. length (shown_in a.b.now m (n k))) in
    let e = get_long a.b.now m none (subst (λ (x : ℕ). 253 < x) size c.if-shown_size-gt253.true) in
    record { octets = c.alone.ensures.octets ∙ (λ k. splice a.out.now 0 (sym e k)); length = c.alone.ensures.length ∙ (λ k. length (sym e k)) }

pub returns-then-unavailable-eq0 : goal.returns-then-unavailable-eq0
returns-then-unavailable-eq0 c =
    let n = c.octet_at-n.ensures in
    let a = c.args in
    let m = a.m.now in
    let none : unavailable_count m (count_in m) ≡ 0 = sym (c.unavailable_count-unavailable.ensures.0 ∙ ap (unavailable_count m) n) ∙ c.if-unavailable-eq0.true in
    let size = c.shown_size.ensures ∙ (λ k. length (shown_in a.b.now m (n k))) in
    let fits : length (shown_in a.b.now m (count_in m)) ≤ 253 = omega (arith, c.if-shown_size-gt253.false) in
    let e = get_ok a.b.now m none fits in record {
      octets = (λ k. set (set ((c.all_shown-to.ensures.octets ∙ (λ j. splice a.out.now 2 (shown_in a.b.now m (n j)))) k) 1 (n k)) 0 0x00)
          ∙ ahead_two _ _ _ _ ∙ (λ k. splice a.out.now 0 (sym e k));
      length = c.all_shown-to.ensures.next ∙ (λ k. 2 + length (shown_in a.b.now m (n k))) ∙ two_more _ ∙ (λ k. length (sym e k));
    }

pub returns-then-unavailable-gt126 : goal.returns-then-unavailable-gt126
returns-then-unavailable-gt126 c =
    let n = c.octet_at-n.ensures in
    let a = c.args in
    let m = a.m.now in
    let count = c.unavailable_count-unavailable.ensures.0 ∙ ap (unavailable_count m) n in
    let e = get_unavailable_long a.b.now m (λ z. c.if-unavailable-eq0.false (count ∙ z)) (subst (λ (x : ℕ). 126 < x) count c.if-unavailable-gt126.true) in
    record { octets = c.alone-then-unavailable-gt126.ensures.octets ∙ (λ k. splice a.out.now 0 (sym e k)); length = c.alone-then-unavailable-gt126.ensures.length ∙ (λ k. length (sym e k)) }

pub all_unavailable-to-requires : goal.all_unavailable-to-requires
all_unavailable-to-requires c =
    let a = c.args in
    omega (arith, unavailable_twice a.m.now c.octet_at-n.result, c.unavailable_count-unavailable.ensures.0)

pub returns : goal.returns
returns c =
    let n = c.octet_at-n.ensures in
    let a = c.args in
    let m = a.m.now in
    let count = c.unavailable_count-unavailable.ensures.0 ∙ ap (unavailable_count m) n in
    let fits : unavailable_count m (count_in m) ≤ 126 = omega (arith, c.if-unavailable-gt126.false) in
    let e = get_unavailable a.b.now m (λ z. c.if-unavailable-eq0.false (count ∙ z)) fits in record {
      octets = (λ k. set (set ((c.all_unavailable-to.ensures.octets ∙ (λ j. splice a.out.now 2 (unavailable_in m (n j)))) k) 1 (count k)) 0 0x09)
          ∙ ahead_two _ _ _ _ ∙ (λ k. splice a.out.now 0 (sym e k));
      length = c.all_unavailable-to.ensures.next ∙ (λ k. 2 + length (unavailable_in m (n k))) ∙ two_more _ ∙ (λ k. length (sym e k));
    }
