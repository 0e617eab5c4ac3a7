-- Whether a pair is among those found: the list's first `count` places are looked at, or all of them where a record says more.
-- Assumes nothing.
use Prim.Native.Nat.{ℕ, zero, suc, ◌+◌, ◌-◌, ◌≤◌, ◌<◌}
use native.Mathlib.Omega.{arith}
use native.Mathlib.Decide.{dec_lt}
use mathlib.Core.Path.{◌≡◌, refl, sym, ap, ◌∙◌}
use mathlib.Core.Bool.{Bool}
use lib.ListN.{length, take}
use borrow.Author.Tests.{lt-ltb, le-ltb}
use Rattle.std.specs.Prelude.{min}
use Rattle.std.specs.List.{list_any}
use Rattle.std.proofs.Math.Bool.{or-false}
use Rattle.std.proofs.lemmas.List.Folds.{list_any_more}
use Rattle.state.specs.Kinds.{Pair, Pairs}
use Rattle.state.specs.Radio.{no_pair, same_pair, listed_in, listed}

module _ (ps : Pairs) (p : Pair) where
  abbrev pub is_it : Pair → Bool
  is_it q = same_pair q p

  within : (n : ℕ) → n ≤ length ps.list → n ≤ ps.count → listed_in ps n p ≡ list_any is_it (take n ps.list)
  unfolding listed_in
  within zero l h = refl
  within (suc n) l h =
      let more = list_any_more is_it ps.list n no_pair (omega arith) in
      let e : n + 1 ≡ suc n = omega arith in
      rw (lt-ltb n ps.count (omega arith), within n (omega arith) (omega arith)) (sym more ∙ ap (λ (k : ℕ). list_any is_it (take k ps.list)) e)

  past : (k n : ℕ) → ps.count ≤ k → listed_in ps (n + k) p ≡ listed_in ps k p
  unfolding listed_in
  past k zero h = let e : 0 + k ≡ k = omega arith in ap (λ (j : ℕ). listed_in ps j p) e
  past k (suc n) h =
      let e : suc n + k ≡ suc (n + k) = omega arith in
      ap (λ (j : ℕ). listed_in ps j p) e ∙ rw (le-ltb (n + k) ps.count (omega arith)) (or-false (listed_in ps (n + k) p) ∙ past k n h)

  pub found : length ps.list ≡ 8 → (k : ℕ) → k ≡ min ps.count 8 → list_any is_it (take k ps.list) ≡ listed ps p
  found long k e = go (dec_lt ps.count 8)
    where
      go : Dec (ps.count < 8) → list_any is_it (take k ps.list) ≡ listed ps p
      go (yes h) =
          let all : k ≡ ps.count = omega (arith, e) in
          let rest : (8 - ps.count) + ps.count ≡ 8 = omega arith in
          ap (λ (n : ℕ). list_any is_it (take n ps.list)) all
          ∙ sym (within ps.count (omega arith) (omega arith))
          ∙ sym (past ps.count (8 - ps.count) (omega arith))
          ∙ ap (λ (n : ℕ). listed_in ps n p) rest
      go (no h) =
          let all : k ≡ 8 = omega (arith, e) in
          ap (λ (n : ℕ). list_any is_it (take n ps.list)) all ∙ sym (within 8 (omega arith) (omega arith))
