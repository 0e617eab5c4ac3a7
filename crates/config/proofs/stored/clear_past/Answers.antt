-- `config::stored::clear_past` meets its contract. The loop's invariant: all says whether those of the first k octets that are past n are 00.
-- one octet more: before n it is not asked
use borrow.Author.Tests.{ltb-true, ltb-false}
use native.Mathlib.Omega.{arith}
use Prim.Native.Nat.{ℕ, suc, ◌+◌, ◌-◌}
use mathlib.Core.Path.{◌≡◌, refl, sym, ◌∙◌, ap}
use mathlib.Core.Bool.{Bool, true, false, ◌&&◌, ◌||◌}
use lib.Dec.{eqb, ltb}
use lib.ListN.{get_or}
use Rattle.octets.specs.Octets.{Octets}
use Rattle.config.specs.Stored.{zeros}
use Rattle.config.proofs.stored.clear_past.Goals as goal

one_more : (b : Octets) (i n k : ℕ) → (zeros b (i + n) (k - n) && (ltb k n || eqb (get_or b (i + k) 0) 0)) ≡ zeros b (i + n) (k + 1 - n)
unfolding zeros
one_more b i n k = go (ltb k n) refl
  where
    go : (t : Bool) → ltb k n ≡ t → (zeros b (i + n) (k - n) && (t || eqb (get_or b (i + k) 0) 0)) ≡ zeros b (i + n) (k + 1 - n)
    go true e =
        let none : k - n ≡ 0 = omega (arith, ltb-true k n e) in
        let still : k + 1 - n ≡ 0 = omega (arith, ltb-true k n e) in
        rw (none, still)
    go false e =
        let next : k + 1 - n ≡ suc (k - n) = omega (arith, ltb-false k n e) in
        let same : i + k ≡ i + n + (k - n) = omega (arith, ltb-false k n e) in
        (λ j. zeros b (i + n) (k - n) && eqb (get_or b (same j) 0) 0) ∙ sym (ap (zeros b (i + n)) next)

pub loop-k-init : goal.loop-k-init
unfolding zeros
loop-k-init c = let none : 0 - c.args.n ≡ 0 = omega arith in rw none

pub loop-k-preserved : goal.loop-k-preserved
loop-k-preserved c =
    let a = c.args in
    let k = c.loop-k.k in
    (ap (λ (x : Bool). x && (ltb k a.n || eqb (get_or a.b.now (a.i + k) 0) 0)) c.loop-k.invariant ∙ one_more a.b.now a.i a.n k)

pub returns : goal.returns
returns c =
    let a = c.args in
    let all : c.loop-k.k ≡ a.room = omega arith in
    c.loop-k.invariant ∙ ap (λ (k : ℕ). zeros a.b.now (a.i + a.n) (k - a.n)) all
