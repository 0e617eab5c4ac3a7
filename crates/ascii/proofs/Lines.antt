-- The laws of `specs/Fields.antt`.
-- Assumes nothing.
use Prim.Native.Nat.{ℕ, suc, ◌+◌, ◌≤◌, ◌<◌}
use mathlib.Core.Path.{◌≡◌, refl, sym, ap, ◌∙◌}
use mathlib.Core.Bool.{Bool, true, false, ◌&&◌}
use mathlib.Core.List.{[], ◌∷◌, ◌++◌}
use native.Mathlib.Omega.{arith}
use native.Mathlib.Numerals.{add-one}
use borrow.Author.Tests.{eq-eqb, eqb-true, ltb-true, ltb-false}
use lib.ListN.{length, take, drop, get_or, length-drop, take-append-drop, get_or-eq_default}
use lib.Seq.{take_all, drop-cons}
use lib.Dec.{eqb, ltb}
use Rattle.octets.specs.Octets.{Octets, pick, cut}
use Rattle.ascii.specs.Words.{same_as, starts_with}
use Rattle.ascii.specs.Fields.{field_of, after_field, has_field, only_field, value_in}
use Rattle.ascii.proofs.Words.{both, same_true, up_to_short, up_to_front, up_to_rest, up_to_append}

-- all of the first field from an index on
pub field_rest : (at : ℕ) (l : Octets) → cut at (length l) (field_of l) ≡ drop at (field_of l)
unfolding cut
field_rest at l = take_all (length l) (drop at (field_of l)) (simp length-drop (omega (arith, up_to_short 32 l)))

pub after_short : (l : Octets) → length (after_field l) ≤ length l
after_short l = simp length-drop (omega arith)

-- ---- the value

pub value_named : (name l : Octets) → has_field name l ≡ true → value_in name l ≡ drop (length name + 1) (field_of l)
value_named name l e = ap (λ (t : Bool). pick t (drop (length name + 1) (field_of l)) []) e

pub value_other : (name l : Octets) → has_field name l ≡ false → value_in name l ≡ []
value_other name l e = ap (λ (t : Bool). pick t (drop (length name + 1) (field_of l)) []) e

pub value_short : (name l : Octets) → length (value_in name l) ≤ length l
value_short name l = go (has_field name l) refl
  where
    go : (b : Bool) → has_field name l ≡ b → length (value_in name l) ≤ length l
    go true e = omega (arith, ap length (value_named name l e), length-drop (length name + 1) (field_of l), up_to_short 32 l)
    go false e = omega (arith, ap length (value_other name l e))

-- ---- a line, put together again from its fields

starts_front : (l w : Octets) → starts_with l w ≡ true → take (length w) l ≡ w
unfolding starts_with cut
starts_front l w e = same_true (take (length w) l) w e

sign_inside : (l : Octets) (n : ℕ) → get_or l n 0 ≡ 61 → n < length l
sign_inside l n e = go (ltb n (length l)) refl
  where
    go : (b : Bool) → ltb n (length l) ≡ b → n < length l
    go true t = ltb-true n (length l) t
    go false t =
        let past : get_or l n 0 ≡ 0 = get_or-eq_default l 0 (ltb-false n (length l) t) in
        omega (arith, e, past)

module _ (name l : Octets) (e : has_field name l ≡ true) where
  sign : get_or (field_of l) (length name) 0 ≡ 61
  sign = eqb-true (get_or (field_of l) (length name) 0) 61 (both (starts_with (field_of l) name) (eqb (get_or (field_of l) (length name) 0) 61) e).1

  -- a field is its name, an equals sign and its value
  pub field_named : field_of l ≡ name ++ (61 ∷ value_in name l)
  field_named =
      sym (take-append-drop (length name) (field_of l))
      ∙ (λ i. starts_front (field_of l) name (both (starts_with (field_of l) name) (eqb (get_or (field_of l) (length name) 0) 61) e).0 i ++ drop-cons (field_of l) (length name) 0 (sign_inside (field_of l) (length name) sign) i)
      ∙ (λ i. name ++ (sign i ∷ drop (sym (add-one (length name)) i) (field_of l)))
      ∙ (λ i. name ++ (61 ∷ sym (value_named name l e) i))

  -- a line with a blank is its first field, the blank and what follows
  pub line_more : length (field_of l) < length l → l ≡ (name ++ (61 ∷ value_in name l)) ++ (32 ∷ after_field l)
  line_more h = up_to_rest 32 l h ∙ (λ i. field_named i ++ (32 ∷ drop (sym (add-one (length (field_of l))) i) l))

-- a line of one field is that field
pub line_only : (name l : Octets) → only_field name l ≡ true → l ≡ name ++ (61 ∷ value_in name l)
unfolding cut
line_only name l e =
    let t = both (has_field name l) (eqb (length (field_of l)) (length l)) e in
    sym (take_all (length l) l (omega arith))
    ∙ (λ i. take (sym (eqb-true (length (field_of l)) (length l) t.1) i) l)
    ∙ up_to_front 32 l
    ∙ field_named name l t.0

-- ---- a line that is written so has its fields

starts_again : (w m : Octets) → starts_with (w ++ m) w ≡ true
unfolding starts_with cut same_as
starts_again [] m = refl
starts_again (x ∷ w) m = λ i. eq-eqb x x refl i && starts_again w m i

sign_again : (w v : Octets) → get_or (w ++ (61 ∷ v)) (length w) 0 ≡ 61
sign_again [] v = refl
sign_again (x ∷ w) v = sign_again w v

behind : (w : Octets) (c : ℕ) (v : Octets) → drop (suc (length w)) (w ++ (c ∷ v)) ≡ v
behind [] c v = refl
behind (x ∷ w) c v = behind w c v

-- a field has no blank: its value is what stands behind the equals sign, whatever follows a blank
module _ (name v : Octets) (solid : field_of (name ++ (61 ∷ v)) ≡ name ++ (61 ∷ v)) where
  named : (l : Octets) → field_of l ≡ name ++ (61 ∷ v) → has_field name l ≡ true
  named l first =
      (λ i. starts_with (first i) name && eqb (get_or (first i) (length name) 0) 61)
      ∙ (λ i. starts_again name (61 ∷ v) i && eq-eqb (get_or (name ++ (61 ∷ v)) (length name) 0) 61 (sign_again name v) i)

  valued : (l : Octets) → field_of l ≡ name ++ (61 ∷ v) → value_in name l ≡ v
  valued l first =
      value_named name l (named l first)
      ∙ (λ i. drop (add-one (length name) i) (first i))
      ∙ behind name 61 v

  pub field_last : (only_field name (name ++ (61 ∷ v)) ≡ true) × (value_in name (name ++ (61 ∷ v)) ≡ v)
  field_last =
      let all = eq-eqb (length (field_of (name ++ (61 ∷ v)))) (length (name ++ (61 ∷ v))) (ap length solid) in
      (λ i. named (name ++ (61 ∷ v)) solid i && all i, valued (name ++ (61 ∷ v)) solid)

  module _ (rest : Octets) where
    pub field_first : field_of ((name ++ (61 ∷ v)) ++ (32 ∷ rest)) ≡ name ++ (61 ∷ v)
    field_first = up_to_append 32 (name ++ (61 ∷ v)) rest solid

    pub field_has : has_field name ((name ++ (61 ∷ v)) ++ (32 ∷ rest)) ≡ true
    field_has = named ((name ++ (61 ∷ v)) ++ (32 ∷ rest)) field_first

    pub field_value : value_in name ((name ++ (61 ∷ v)) ++ (32 ∷ rest)) ≡ v
    field_value = valued ((name ++ (61 ∷ v)) ++ (32 ∷ rest)) field_first

    pub field_after : after_field ((name ++ (61 ∷ v)) ++ (32 ∷ rest)) ≡ rest
    field_after =
        (λ i. drop (add-one (length (field_first i)) i) ((name ++ (61 ∷ v)) ++ (32 ∷ rest)))
        ∙ behind (name ++ (61 ∷ v)) 32 rest
