-- The array of five: what a Conn ID's counts are where one connection changes, and where all do.
-- Assumes nothing.
use Prim.Native.Nat.{ℕ, zero, suc, ◌≤◌, ◌<◌}
use native.Mathlib.Omega.{arith}
use native.Mathlib.Decide.{dec_lt}
use mathlib.Core.Path.{◌≡◌, refl, sym, ap, ◌∙◌, subst}
use mathlib.Core.Bool.{Bool, true, false, false≢true}
use mathlib.Core.List.{List, [], ◌∷◌}
use lib.ListN.{length, get_or, set, get_or-eq_default, length-set}
use lib.Seq.{get_or-set_same, get_or-set_other}
use lib.Dec.{eqb}
use borrow.Author.Tests.{eqb-true, eqb-false}
use Rattle.std.proofs.lemmas.List.{ext_get_or}
use Rattle.octets.specs.Octets.{pick}
use Rattle.state.specs.Kinds.{Counts}
use Rattle.state.specs.Conn.{place_of, conn_of, closed_counts, counts_of, open_at, held_open}
use Rattle.state.proofs.Places.{conn_place, place_conn, places_differ}

-- five steps, one for each connection
pub five : {A : Type 0} (f : A → ℕ → A) (x a b c d e : A)
    → a ≡ f x 0 → b ≡ f a 2 → c ≡ f b 3 → d ≡ f c 4 → e ≡ f d 5 → e ≡ f (f (f (f (f x 0) 2) 3) 4) 5
five f x a b c d e p q r s t = rw (t, s, r, q, p)

-- past the five places every connection is closed
pub past_five : (conns : List Counts) (p : ℕ) → length conns ≡ 5 → (p < 5 → ⊥) → get_or conns p closed_counts ≡ closed_counts
past_five conns p n h = let past : length conns ≤ p = omega arith in get_or-eq_default conns closed_counts past

-- a connection that is open at the controller has a place
pub open_place : (conns : List Counts) (c : ℕ) → length conns ≡ 5 → open_at conns c ≡ true → place_of c < 5
unfolding open_at
open_place conns c n e = go (dec_lt (place_of c) 5)
  where
    go : Dec (place_of c < 5) → place_of c < 5
    go (yes h) = h
    go (no h) = absurd (false≢true (sym (ap (λ (k : Counts). k.controller.opened) (past_five conns (place_of c) n h)) ∙ e))

-- and so has one that is open at the host
pub held_place : (conns : List Counts) (c : ℕ) → length conns ≡ 5 → held_open conns c ≡ true → place_of c < 5
unfolding held_open
held_place conns c n e = go (dec_lt (place_of c) 5)
  where
    go : Dec (place_of c < 5) → place_of c < 5
    go (yes h) = h
    go (no h) = absurd (false≢true (sym (ap (λ (k : Counts). k.host.opened) (past_five conns (place_of c) n h)) ∙ e))

-- ---- counts become those that f makes of them

module _ (f : ℕ → Counts → Counts) where
  -- the array with one connection's counts changed
  abbrev pub changed_at : List Counts → ℕ → List Counts
  changed_at conns c = set conns (place_of c) (f c (counts_of conns c))

  abbrev pub all_changed : List Counts → List Counts
  all_changed conns = changed_at (changed_at (changed_at (changed_at (changed_at conns 0) 2) 3) 4) 5

  pub length_one : (conns : List Counts) (c : ℕ) → length (changed_at conns c) ≡ length conns
  length_one conns c = length-set conns (place_of c) (f c (counts_of conns c))

  pub length_all : (conns : List Counts) → length (all_changed conns) ≡ length conns
  length_all conns = simp length-set

  -- one changes, and the others stay
  pub one_at : (conns : List Counts) (c d : ℕ) → length conns ≡ 5 → place_of d < 5
      → counts_of (changed_at conns c) d ≡ pick (eqb c d) (f d (counts_of conns d)) (counts_of conns d)
  one_at conns c d n h = go (eqb c d) refl
    where
      same : place_of d < length conns
      same = omega arith

      go : (b : Bool) → eqb c d ≡ b → counts_of (changed_at conns c) d ≡ pick b (f d (counts_of conns d)) (counts_of conns d)
      go true e =
          subst (λ (x : ℕ). counts_of (changed_at conns x) d ≡ f d (counts_of conns d)) (sym (eqb-true c d e))
          (get_or-set_same conns (place_of d) (f d (counts_of conns d)) closed_counts same)
      go false e =
          get_or-set_other conns (place_of c) (place_of d) (f c (counts_of conns c)) closed_counts
          (places_differ d c h (λ q. eqb-false c d e (sym q)))

  all_places : (conns : List Counts) (p : ℕ) → length conns ≡ 5 → p < 5 → counts_of (all_changed conns) (conn_of p) ≡ f (conn_of p) (counts_of conns (conn_of p))
  unfolding place_of conn_of
  all_places (u ∷ v ∷ w ∷ x ∷ y ∷ []) zero n h = refl
  all_places (u ∷ v ∷ w ∷ x ∷ y ∷ []) (suc zero) n h = refl
  all_places (u ∷ v ∷ w ∷ x ∷ y ∷ []) (suc (suc zero)) n h = refl
  all_places (u ∷ v ∷ w ∷ x ∷ y ∷ []) (suc (suc (suc zero))) n h = refl
  all_places (u ∷ v ∷ w ∷ x ∷ y ∷ []) (suc (suc (suc (suc zero)))) n h = refl
  all_places (u ∷ v ∷ w ∷ x ∷ y ∷ []) (suc (suc (suc (suc (suc p))))) n h = absurd (omega arith)
  all_places [] p n h = absurd (omega arith)
  all_places (u ∷ []) p n h = absurd (omega arith)
  all_places (u ∷ v ∷ []) p n h = absurd (omega arith)
  all_places (u ∷ v ∷ w ∷ []) p n h = absurd (omega arith)
  all_places (u ∷ v ∷ w ∷ x ∷ []) p n h = absurd (omega arith)
  all_places (u ∷ v ∷ w ∷ x ∷ y ∷ z ∷ l) p n h = absurd (omega arith)

  -- all change
  pub all_at : (conns : List Counts) (d : ℕ) → length conns ≡ 5 → place_of d < 5 → counts_of (all_changed conns) d ≡ f d (counts_of conns d)
  all_at conns d n h =
      subst (λ (x : ℕ). counts_of (all_changed conns) x ≡ f x (counts_of conns x)) (conn_place d h) (all_places conns (place_of d) n h)

-- five counts, each made by f of those that stood in its place
pub mapped : (f : Counts → Counts) (conns ys : List Counts) → length conns ≡ 5 → length ys ≡ 5
    → ((p : ℕ) → p < 5 → get_or ys p closed_counts ≡ f (get_or conns p closed_counts)) → ys ≡ all_changed (λ c k. f k) conns
mapped f conns ys n m h =
    ext_get_or closed_counts ys (all_changed (λ c k. f k) conns) (m ∙ sym n ∙ sym (length_all (λ c k. f k) conns)) (λ p l.
    let low : p < 5 = omega (arith, m, l) in
    h p low
    ∙ sym (subst (λ (x : ℕ). get_or (all_changed (λ c k. f k) conns) x closed_counts ≡ f (get_or conns x closed_counts)) (place_conn p low) (all_places (λ c k. f k) conns p n low)))
