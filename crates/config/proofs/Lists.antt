-- Laws of the two lists: what is accepted, and where parameters stand.
-- Assumes nothing.
use Prim.Native.Nat.{ℕ, zero, suc, ◌+◌, ◌*◌, ◌≤◌, ◌<◌}
use mathlib.Core.Path.{◌≡◌, refl, sym, ◌∙◌, ap}
use mathlib.Core.Bool.{Bool, true, false, ◌&&◌, ◌||◌, false≢true}
use mathlib.Core.List.{[], ◌∷◌, ◌++◌}
use native.Mathlib.Omega.{arith}
use native.Mathlib.Numerals.{add-one}
use lib.ListN.{length, length-append, length-take, length-drop, set, get_or, take}
use lib.Seq.{take_all}
use Rattle.std.specs.List.{list_all}
use Rattle.std.proofs.lemmas.List.Folds.{list_all_more}
use lib.Dec.{eqb, leb}
use Rattle.octets.specs.Octal.{Octal, octal_nil, octal_cons}
use Rattle.octets.proofs.Octal.{octal_at, octal_append, octal_cut}
use borrow.Author.Tests.{eq-eqb, ne_eqb, leb-true, leb-false, le-leb, lt-leb}
use Rattle.octets.specs.Octets.{Octets, pick, cut, over, splice}
use Rattle.octets.proofs.Octets.{length_splice, splice_next}
use Rattle.state.proofs.Chains.{and_left, and_right}
use Rattle.config.specs.declared.table.Row.{Row}
use Rattle.config.specs.Table.{config_size, row_of, known_row, allowed_by, all_allowed, acceptable, default_of}
use Rattle.config.specs.declared.table.Values.{Values}
use Rattle.std.specs.Prelude.{Option, Some, None}
use Rattle.config.specs.Stored.{lead, size_in, value_in, value_of, with_value}
use Rattle.config.specs.Commands.{param_at, id_in, param_in, settled, accepted, set_found, set_one, set_first, invalid_in, count_in, asked_in, shown_in, unavailable_in, unavailable_count, set_rsp, within, get_rsp}
use Rattle.state.specs.Names.{invalid_param, size_exceeded}
use Rattle.config.proofs.Rows.{found_default}

-- ---- what is accepted

pub accepted_default : (id : ℕ) (r : Row) (v : Octets) → row_of id ≡ Some r → length v ≡ 0 → acceptable r (settled r v) ≡ true
accepted_default id r v k e = rw (eq-eqb (length v) 0 e) (found_default id r k)

pub accepted_law : (id : ℕ) (r : Row) (v : Octets) → row_of id ≡ Some r → (eqb (length v) 0 || acceptable r v) ≡ accepted id v
accepted_law id r v k = rw k (go (eqb (length v) 0) refl)
  where
    go : (t : Bool) → eqb (length v) 0 ≡ t → (t || acceptable r v) ≡ acceptable r (pick t (default_of r) v)
    go true e = sym (found_default id r k)
    go false e = refl

pub acceptable_short : (r : Row) (v : Octets) → acceptable r v ≡ true → length v ≤ r.most
unfolding acceptable
acceptable_short r v e = leb-true _ _ (and_right (leb r.least (length v)) _ (and_left (leb r.least (length v) && leb (length v) r.most) _ e))

-- ---- octets that a value may have

allowed_front : (vs : Values) (v : Octets) (n : ℕ) → n ≤ length v → all_allowed vs v n ≡ list_all (allowed_by vs) (take n v)
unfolding all_allowed
allowed_front vs v zero h = refl
allowed_front vs v (suc n) h =
    ap (λ (b : Bool). b && allowed_by vs (get_or v n 0)) (allowed_front vs v n (omega arith))
    ∙ sym (list_all_more (allowed_by vs) v n 0 (omega arith))
    ∙ (λ i. list_all (allowed_by vs) (take (add-one n i) v))

pub allowed_all : (vs : Values) (v : Octets) → all_allowed vs v (length v) ≡ list_all (allowed_by vs) v
allowed_all vs v = allowed_front vs v (length v) (omega arith) ∙ ap (list_all (allowed_by vs)) (take_all (length v) v (omega arith))

-- ---- what is set

pub set_default : (id : ℕ) (r : Row) (v b : Octets) → row_of id ≡ Some r → length v ≡ 0 → set_one id v b ≡ with_value r (default_of r) b
set_default id r v b k e = rw (k, accepted_default id r v k e, eq-eqb (length v) 0 e)

pub set_value : (id : ℕ) (r : Row) (v b : Octets) → row_of id ≡ Some r → (length v ≡ 0 → ⊥) → acceptable r v ≡ true
    → set_one id v b ≡ with_value r v b
set_value id r v b k e ok = rw (k, ne_eqb (length v) 0 e, ok)

pub set_unknown : (id : ℕ) (v b : Octets) → known_row (row_of id) ≡ false → set_one id v b ≡ b
set_unknown id v b = go (row_of id)
  where
    go : (o : Option Row) → known_row o ≡ false → set_found o v b ≡ b
    go None e = refl
    go (Some r) e = absurd (false≢true (sym e))

pub set_invalid : (id : ℕ) (r : Row) (v b : Octets) → row_of id ≡ Some r → (length v ≡ 0 → ⊥) → acceptable r v ≡ false → set_one id v b ≡ b
set_invalid id r v b k e bad = rw (k, ne_eqb (length v) 0 e, bad)

-- ---- where parameters stand

-- each has at least two octets
pub param_far : (m : Octets) (n : ℕ) → 1 + 2 * n ≤ param_at m n
unfolding param_at
param_far m zero = omega arith
param_far m (suc n) = omega (arith, param_far m n)

-- at most one ID for each
pub invalid_few : (m : Octets) (n : ℕ) → length (invalid_in m n) ≤ n
unfolding invalid_in
invalid_few m zero = omega arith
invalid_few m (suc n) = go (accepted (id_in m n) (param_in m n)) (invalid_few m n)
  where
    go : (ok : Bool) → length (invalid_in m n) ≤ n → length (invalid_in m n ++ pick ok [] (id_in m n ∷ [])) ≤ suc n
    go true h = simp length-append (omega arith)
    go false h = simp length-append (omega arith)

-- ---- a parameter that is read

-- what `set::param_at` reads where parameter i stands
pub record Read (m : Octets) (i id next : ℕ) (v : Octets) : Type 0 where
  pub id_is : id ≡ id_in m i
  pub value_is : v ≡ param_in m i
  pub next_is : next ≡ param_at m (suc i)

pub param_read : (m : Octets) (at i id next : ℕ) (v : Octets) → at ≡ param_at m i → id ≡ get_or m at 0
    → v ≡ cut (at + 2) (get_or m (at + 1) 0) m → next ≡ at + 2 + get_or m (at + 1) 0 → Read m i id next v
unfolding param_at
param_read m at i id next v place e w n =
    record {
      id_is = e ∙ ap (λ (k : ℕ). get_or m k 0) place;
      value_is = w ∙ ap (λ (k : ℕ). cut (k + 2) (get_or m (k + 1) 0) m) place;
      next_is = n ∙ ap (λ (k : ℕ). k + 2 + get_or m (k + 1) 0) place;
    }

-- ---- lengths

long_value : (r : Row) (v b : Octets) → length (with_value r v b) ≡ length b
unfolding with_value
long_value r v b = length_splice _ _ _ ∙ length_splice _ _ _

one_long : (o : Option Row) (v b : Octets) → length (set_found o v b) ≡ length b
one_long None v b = refl
one_long (Some r) v b = go (acceptable r (settled r v))
  where
    go : (ok : Bool) → length (pick ok (with_value r (settled r v) b) b) ≡ length b
    go true = long_value _ _ _
    go false = refl

pub set_long : (b m : Octets) (n : ℕ) → length (set_first b m n) ≡ length b
unfolding set_first
set_long b m zero = refl
set_long b m (suc n) = one_long (row_of (id_in m n)) (param_in m n) (set_first b m n) ∙ set_long b m n

-- ---- a response that is written part by part, from index 2 on, its first two octets last

pub grown : (l out old part after : Octets) (to next : ℕ) → out ≡ splice l 2 old → to ≡ 2 + length old → after ≡ splice out to part
    → next ≡ to + length part → (after ≡ splice l 2 (old ++ part)) × (next ≡ 2 + length (old ++ part))
grown l out old part after to next o t a n = (
  a ∙ (λ i. splice (o i) (t i) part) ∙ splice_next l 2 old part,
  let e = length-append old part in omega arith,
)

pub ahead_two : (l : Octets) (x y : ℕ) (vs : Octets) → set (set (splice l 2 vs) 1 y) 0 x ≡ splice l 0 (x ∷ y ∷ vs)
unfolding splice over
ahead_two [] x y vs = refl
ahead_two (a ∷ []) x y vs = refl
ahead_two (a ∷ c ∷ l) x y vs = refl

-- ---- what a get shows

pub value_short : (b : Octets) (o : Option Row) → length (value_of b o) ≤ length b
unfolding value_in cut
value_short b None = omega arith
value_short b (Some r) = simp (length-take, length-drop) (omega arith)

pub shown_grows : (b m : Octets) (i n : ℕ) → i ≤ n → length (shown_in b m i) ≤ length (shown_in b m n)
unfolding shown_in
shown_grows b m i zero h = let e : i ≡ zero = omega arith in rw e (omega arith)
shown_grows b m i (suc n) h = go (leb i n) refl (λ k. shown_grows b m i n k)
  where
    go : (t : Bool) → leb i n ≡ t → (i ≤ n → length (shown_in b m i) ≤ length (shown_in b m n)) → length (shown_in b m i) ≤ length (shown_in b m (suc n))
    go true e k = simp length-append (omega (arith, k (leb-true i n e)))
    go false e k = let z : i ≡ suc n = omega (arith, leb-false i n e) in rw z (omega arith)

pub unavailable_grows : (m : Octets) (i n : ℕ) → i ≤ n → length (unavailable_in m i) ≤ length (unavailable_in m n)
unfolding unavailable_in
unavailable_grows m i zero h = let e : i ≡ zero = omega arith in rw e (omega arith)
unavailable_grows m i (suc n) h = go (leb i n) refl (λ k. unavailable_grows m i n k)
  where
    go : (t : Bool) → leb i n ≡ t → (i ≤ n → length (unavailable_in m i) ≤ length (unavailable_in m n)) → length (unavailable_in m i) ≤ length (unavailable_in m (suc n))
    go true e k = simp length-append (omega (arith, k (leb-true i n e)))
    go false e k = let z : i ≡ suc n = omega (arith, leb-false i n e) in rw z (omega arith)

-- two octets for each
pub unavailable_twice : (m : Octets) (n : ℕ) → length (unavailable_in m n) ≡ 2 * unavailable_count m n
unfolding unavailable_in unavailable_count
unavailable_twice m zero = refl
unavailable_twice m (suc n) = go (known_row (row_of (asked_in m n))) (unavailable_twice m n)
  where
    go : (k : Bool) → length (unavailable_in m n) ≡ 2 * unavailable_count m n
        → length (unavailable_in m n ++ pick k [] (asked_in m n ∷ 0x00 ∷ [])) ≡ 2 * (unavailable_count m n + pick k 0 1)
    go true h = simp length-append (omega arith)
    go false h = simp length-append (omega arith)

-- ---- the response to a get, by its cases

module _ (b m : Octets) where
  pub get_ok : unavailable_count m (count_in m) ≡ 0 → length (shown_in b m (count_in m)) ≤ 253 → get_rsp b m ≡ 0x00 ∷ count_in m ∷ shown_in b m (count_in m)
  get_ok e h =
      let fits : suc (suc (length (shown_in b m (count_in m)))) ≤ 255 = omega arith in
      rw (eq-eqb (unavailable_count m (count_in m)) 0 e, le-leb (suc (suc (length (shown_in b m (count_in m))))) 255 fits)

  pub get_long : unavailable_count m (count_in m) ≡ 0 → 253 < length (shown_in b m (count_in m)) → get_rsp b m ≡ size_exceeded ∷ []
  get_long e h =
      let over : 255 < suc (suc (length (shown_in b m (count_in m)))) = omega arith in
      rw (eq-eqb (unavailable_count m (count_in m)) 0 e, lt-leb (suc (suc (length (shown_in b m (count_in m))))) 255 over)

  pub get_unavailable : (unavailable_count m (count_in m) ≡ 0 → ⊥) → unavailable_count m (count_in m) ≤ 126
      → get_rsp b m ≡ invalid_param ∷ unavailable_count m (count_in m) ∷ unavailable_in m (count_in m)
  get_unavailable e h =
      let fits : suc (suc (length (unavailable_in m (count_in m)))) ≤ 255 = omega (arith, unavailable_twice m (count_in m)) in
      rw (ne_eqb (unavailable_count m (count_in m)) 0 e, le-leb (suc (suc (length (unavailable_in m (count_in m))))) 255 fits)

  pub get_unavailable_long : (unavailable_count m (count_in m) ≡ 0 → ⊥) → 126 < unavailable_count m (count_in m) → get_rsp b m ≡ size_exceeded ∷ []
  get_unavailable_long e h =
      let over : 255 < suc (suc (length (unavailable_in m (count_in m)))) = omega (arith, unavailable_twice m (count_in m)) in
      rw (ne_eqb (unavailable_count m (count_in m)) 0 e, lt-leb (suc (suc (length (unavailable_in m (count_in m))))) 255 over)

pub at_most_one : (k : Bool) → pick k 0 1 ≤ 1
at_most_one true = omega arith
at_most_one false = omega arith

-- a response to a get is never longer than a control message
within_short : (q : Octets) → length (within q) ≤ 255
within_short q = fits (leb (length q) 255) refl
  where
    fits : (t : Bool) → leb (length q) 255 ≡ t → length (pick t q (size_exceeded ∷ [])) ≤ 255
    fits true e = leb-true (length q) 255 e
    fits false e = omega arith

pub get_short : (b m : Octets) → length (get_rsp b m) ≤ 255
get_short b m =
    within_short
    (pick (eqb (unavailable_count m (count_in m)) 0) (0x00 ∷ count_in m ∷ shown_in b m (count_in m))
    (invalid_param ∷ unavailable_count m (count_in m) ∷ unavailable_in m (count_in m)))

-- ---- both responses are octets, where the payload and the values are

low : (x : ℕ) {l : Octets} → x ≤ 255 → Octal l → Octal (x ∷ l)
low x h o = octal_cons h o

pub invalid_octal : {m : Octets} → Octal m → (n : ℕ) → Octal (invalid_in m n)
unfolding invalid_in
invalid_octal o zero = octal_nil
invalid_octal {m} o (suc n) = octal_append (invalid_octal o n) (go (accepted (id_in m n) (param_in m n)))
  where
    go : (t : Bool) → Octal (pick t [] (id_in m n ∷ []))
    go true = octal_nil
    go false = octal_cons (octal_at o (param_at m n)) octal_nil

pub set_octal : {m : Octets} → Octal m → param_at m (count_in m) ≤ 255 → Octal (set_rsp m)
set_octal {m} o h =
    octal_cons (status (eqb (length (invalid_in m (count_in m))) 0))
    (low (length (invalid_in m (count_in m))) (omega (arith, param_far m (count_in m), invalid_few m (count_in m))) (invalid_octal o (count_in m)))
  where
    status : (t : Bool) → pick t 0x00 invalid_param ≤ 255
    status true = omega arith
    status false = omega arith

value_octal : {b : Octets} → Octal b → (o : Option Row) → Octal (value_of b o)
unfolding value_in
value_octal ob None = octal_nil
value_octal {b} ob (Some r) = octal_cut 0 (size_in b r) (octal_cut (r.at + lead r) r.most ob)

pub shown_octal : {b m : Octets} → length b ≡ config_size → Octal b → Octal m → (n : ℕ) → Octal (shown_in b m n)
unfolding shown_in
shown_octal l ob om zero = octal_nil
shown_octal {b} {m} l ob om (suc n) =
    let r = row_of (asked_in m n) in
    octal_append (shown_octal l ob om n)
    (octal_cons (octal_at om (1 + n)) (low (length (value_of b r)) (omega (arith, value_short b r)) (value_octal ob r)))

pub unavailable_octal : {m : Octets} → Octal m → (n : ℕ) → Octal (unavailable_in m n)
unfolding unavailable_in
unavailable_octal o zero = octal_nil
unavailable_octal {m} o (suc n) = octal_append (unavailable_octal o n) (go (known_row (row_of (asked_in m n))))
  where
    go : (t : Bool) → Octal (pick t [] (asked_in m n ∷ 0x00 ∷ []))
    go true = octal_nil
    go false = octal_cons (octal_at o (1 + n)) (low 0x00 (omega arith) octal_nil)

pub get_octal : {b m : Octets} → length b ≡ config_size → Octal b → Octal m → Octal (get_rsp b m)
get_octal {b} {m} l ob om = go (eqb (unavailable_count m (count_in m)) 0)
  where
    out : (q : Octets) → (length q ≤ 255 → Octal q) → Octal (within q)
    out q f = fits (leb (length q) 255) refl
      where
        fits : (t : Bool) → leb (length q) 255 ≡ t → Octal (pick t q (size_exceeded ∷ []))
        fits true e = f (leb-true (length q) 255 e)
        fits false e = low size_exceeded (omega arith) octal_nil

    go : (t : Bool)
        → Octal (within (pick t (0x00 ∷ count_in m ∷ shown_in b m (count_in m)) (invalid_param ∷ unavailable_count m (count_in m) ∷ unavailable_in m (count_in m))))
    go true = out (0x00 ∷ count_in m ∷ shown_in b m (count_in m)) (λ h. low 0x00 (omega arith) (octal_cons (octal_at om 0) (shown_octal l ob om (count_in m))))
    go false = out (invalid_param ∷ unavailable_count m (count_in m) ∷ unavailable_in m (count_in m)) (λ h. low invalid_param (omega arith) (low (unavailable_count m (count_in m)) (omega (arith, unavailable_twice m (count_in m))) (unavailable_octal om (count_in m))))
