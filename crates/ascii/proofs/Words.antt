-- The laws of `specs/Words.antt`, in the order of its definitions.
-- Assumes nothing.
use Prim.Native.Nat.{ℕ, suc, ◌+◌, ◌≤◌, ◌<◌}
use mathlib.Core.Path.{◌≡◌, refl, sym, ap, ◌∙◌}
use mathlib.Core.Bool.{Bool, true, false, ◌&&◌, cond, not, false≢true}
use mathlib.Core.List.{[], ◌∷◌, ◌++◌}
use native.Mathlib.Omega.{arith}
use borrow.Author.Tests.{eq-eqb, ne_eqb, eqb-true, ltb-false}
use lib.ListN.{length, take, drop}
use lib.Dec.{eqb, ltb}
use lib.Pointwise.{pointwise}
use Rattle.std.specs.List.{position_or_len, position}
use Rattle.std.specs.Option.{unwrap_or}
use Rattle.std.proofs.Common.{Some, None}
use Rattle.octets.specs.Octets.{Octets, pick, cut}
use Rattle.ascii.specs.Words.{same_as, starts_with, up_to, ahead, words}

pub both : (a b : Bool) → (a && b) ≡ true → (a ≡ true) × (b ≡ true)
both true b e = (refl, e)
both false b e = absurd (false≢true e)

-- ---- same_as

pub same_true : (a b : Octets) → same_as a b ≡ true → a ≡ b
unfolding same_as
same_true [] [] e = refl
same_true [] (y ∷ b) e = absurd (false≢true e)
same_true (x ∷ a) [] e = absurd (false≢true e)
same_true (x ∷ a) (y ∷ b) e =
    let t = both (eqb x y) (same_as a b) e in
    λ i. eqb-true x y t.0 i ∷ same_true a b t.1 i

-- `a == b` of slices
pub same_pointwise : (a b : Octets) → pointwise eqb a b ≡ same_as a b
unfolding same_as
same_pointwise [] [] = refl
same_pointwise [] (y ∷ b) = refl
same_pointwise (x ∷ a) [] = refl
same_pointwise (x ∷ a) (y ∷ b) = ap (λ (t : Bool). eqb x y && t) (same_pointwise a b)

eqb_turned : (x y : ℕ) → eqb y x ≡ eqb x y
eqb_turned x y = go (eqb x y) refl
  where
    go : (t : Bool) → eqb x y ≡ t → eqb y x ≡ eqb x y
    go true e = eq-eqb y x (sym (eqb-true x y e)) ∙ sym e
    go false e = ne_eqb y x (λ k. false≢true (sym e ∙ eq-eqb x y (sym k))) ∙ sym e

-- `text.starts_with(word)`
turned_pointwise : (a b : Octets) → pointwise eqb b a ≡ same_as a b
unfolding same_as
turned_pointwise [] [] = refl
turned_pointwise [] (y ∷ b) = refl
turned_pointwise (x ∷ a) [] = refl
turned_pointwise (x ∷ a) (y ∷ b) = λ i. eqb_turned x y i && turned_pointwise a b i

pub starts_pointwise : (text word : Octets) → pointwise eqb word (take (length word) text) ≡ starts_with text word
unfolding starts_with cut
starts_pointwise text word = turned_pointwise (take (length word) text) word

-- ---- up_to

pub up_to_short : (c : ℕ) (l : Octets) → length (up_to c l) ≤ length l
unfolding up_to
up_to_short c [] = omega arith
up_to_short c (x ∷ l) = go (eqb x c) (up_to_short c l)
  where
    go : (t : Bool) → length (up_to c l) ≤ length l → length (pick t [] (x ∷ up_to c l)) ≤ suc (length l)
    go true h = omega arith
    go false h = omega arith

-- how many there are: `text.iter().position(..)`, or all
up_to_place : (c : ℕ) (l : Octets) → position_or_len (λ x. eqb x c) l ≡ length (up_to c l)
unfolding up_to
up_to_place c [] = refl
up_to_place c (x ∷ l) = go (eqb x c) (up_to_place c l)
  where
    go : (t : Bool) → position_or_len (λ y. eqb y c) l ≡ length (up_to c l) → cond (not t) (1 + position_or_len (λ y. eqb y c) l) 0 ≡ length (pick t [] (x ∷ up_to c l))
    go true e = refl
    go false e = omega arith

pub up_to_position : (c : ℕ) (l : Octets) → unwrap_or (position (λ x. eqb x c) l) (length l) ≡ length (up_to c l)
up_to_position c l = go (ltb (position_or_len (λ x. eqb x c) l) (length l)) refl ∙ up_to_place c l
  where
    go : (t : Bool) → ltb (position_or_len (λ x. eqb x c) l) (length l) ≡ t
        → unwrap_or (cond t (Some (position_or_len (λ x. eqb x c) l)) None) (length l) ≡ position_or_len (λ x. eqb x c) l
    go true e = refl
    go false e = omega (arith, ltb-false _ _ e, up_to_place c l, up_to_short c l)

-- it is the front of the text
pub up_to_front : (c : ℕ) (l : Octets) → cut 0 (length (up_to c l)) l ≡ up_to c l
unfolding up_to cut
up_to_front c [] = refl
up_to_front c (x ∷ l) = go (eqb x c) (up_to_front c l)
  where
    go : (t : Bool) → take (length (up_to c l)) l ≡ up_to c l → take (length (pick t [] (x ∷ up_to c l))) (x ∷ l) ≡ pick t [] (x ∷ up_to c l)
    go true ih = refl
    go false ih = ap (λ (m : Octets). x ∷ m) ih

-- what it leaves starts with c
pub up_to_rest : (c : ℕ) (l : Octets) → length (up_to c l) < length l → l ≡ up_to c l ++ (c ∷ drop (suc (length (up_to c l))) l)
unfolding up_to
up_to_rest c [] h = absurd (omega arith)
up_to_rest c (x ∷ l) h = go (eqb x c) refl (λ k. up_to_rest c l k) h
  where
    go : (t : Bool) → eqb x c ≡ t → (length (up_to c l) < length l → l ≡ up_to c l ++ (c ∷ drop (suc (length (up_to c l))) l)) → length (pick t [] (x ∷ up_to c l)) < suc (length l)
        → (x ∷ l) ≡ pick t [] (x ∷ up_to c l) ++ (c ∷ drop (suc (length (pick t [] (x ∷ up_to c l)))) (x ∷ l))
    go true e ih k = ap (λ (y : ℕ). y ∷ l) (eqb-true x c e)
    go false e ih k = ap (λ (m : Octets). x ∷ m) (ih (omega arith))

-- a text without c, then c: it is that text
pub up_to_append : (c : ℕ) (a l : Octets) → up_to c a ≡ a → up_to c (a ++ (c ∷ l)) ≡ a
unfolding up_to
up_to_append c [] l e = ap (λ (t : Bool). pick t [] (c ∷ up_to c l)) (eq-eqb c c refl)
up_to_append c (x ∷ a) l e = go (eqb x c) (λ k. up_to_append c a l k) e
  where
    go : (t : Bool) → (up_to c a ≡ a → up_to c (a ++ (c ∷ l)) ≡ a) → pick t [] (x ∷ up_to c a) ≡ x ∷ a
        → pick t [] (x ∷ up_to c (a ++ (c ∷ l))) ≡ x ∷ a
    go true ih k = absurd (omega (arith, ap length k))
    go false ih k = ap (λ (m : Octets). x ∷ m) (ih (ap (drop 1) k))

-- ---- words

-- each character stands above the blank
pub data Solid : Octets → Type 0 where
  solid_nil : Solid []
  solid_cons : {x : ℕ} {l : Octets} → 32 < x → Solid l → Solid (x ∷ l)

pub solid_append : {a b : Octets} → Solid a → Solid b → Solid (a ++ b)
solid_append solid_nil t = t
solid_append (solid_cons h s) t = solid_cons h (solid_append s t)

-- a word, a blank and the other words
pub words_next : {a : Octets} → Solid a → (l : Octets) → words (a ++ (32 ∷ l)) ≡ a ∷ words l
unfolding words ahead
words_next solid_nil l = refl
words_next (solid_cons {x = x} {l = a} h s) l =
    let n : eqb x 32 ≡ false = ne_eqb x 32 (λ e. omega arith) in
    λ i. pick (n i) ([] ∷ words (a ++ (32 ∷ l))) (ahead x (words_next s l i))

pub words_last : {a : Octets} → Solid a → words a ≡ a ∷ []
unfolding words ahead
words_last solid_nil = refl
words_last (solid_cons {x = x} {l = a} h s) =
    let n : eqb x 32 ≡ false = ne_eqb x 32 (λ e. omega arith) in
    λ i. pick (n i) ([] ∷ words a) (ahead x (words_last s i))
