-- The laws of `specs/Digits.antt`, in the order of its definitions: a law for each case, and that what was written is read again.
-- Assumes nothing.
use Prim.Native.Nat.{ℕ, zero, suc, ◌+◌, ◌-◌, ◌*◌, ◌/◌, ◌%◌, ◌≤◌, ◌<◌}
use mathlib.Core.Path.{◌≡◌, refl, sym, ap, ◌∙◌}
use mathlib.Core.Bool.{Bool, true, ◌&&◌}
use mathlib.Core.List.{[], ◌∷◌, ◌++◌}
use native.Mathlib.Nat.{div-div-eq-div-mul}
use native.Mathlib.Omega.{arith}
use native.Mathlib.Decide.{dec_lt}
use borrow.Author.Tests.{lt-ltb, le-ltb, ltb-true}
use lib.ListN.{length, take, drop, get_or}
use lib.Dec.{ltb, eqb}
use Rattle.std.proofs.Common.{Some, None}
use Rattle.std.specs.List.{list_all}
use Rattle.octets.specs.Octets.{Octets, pick}
use Rattle.octets.specs.Octal.{Octal, octal_nil, octal_cons}
use Rattle.ascii.specs.Digits.{digit_of, value_of, digit_value, hex_of, all_digits, is_hex, octets_in, figure_of, figures_of, leading_in, decimal_of, number_from}
use Rattle.ascii.proofs.Words.{Solid, solid_nil, solid_cons, both}

-- ---- digit_of

module _ (n : ℕ) where
  pub digit_decimal : n % 16 < 10 → digit_of n ≡ 48 + n % 16
  unfolding digit_of
  digit_decimal h = simp (lt-ltb _ _ h)

  pub digit_letter : 10 ≤ n % 16 → digit_of n ≡ 55 + n % 16
  unfolding digit_of
  digit_letter h = simp (le-ltb _ _ h)

-- ---- value_of

module _ (c : ℕ) where
  pub value_low : c < 48 → value_of c ≡ 16
  unfolding value_of
  value_low h = simp (lt-ltb _ _ h)

  pub value_decimal : 48 ≤ c → c < 58 → value_of c ≡ c - 48
  unfolding value_of
  value_decimal h i = simp (le-ltb _ _ h, lt-ltb _ _ i)

  pub value_between : 58 ≤ c → c < 65 → value_of c ≡ 16
  unfolding value_of
  value_between h i =
      let j : 48 ≤ c = omega arith in
      simp (le-ltb _ _ j, le-ltb _ _ h, lt-ltb _ _ i)

  pub value_letter : 65 ≤ c → c < 71 → value_of c ≡ c - 55
  unfolding value_of
  value_letter h i =
      let j : 48 ≤ c = omega arith in
      let k : 58 ≤ c = omega arith in
      simp (le-ltb _ _ j, le-ltb _ _ k, le-ltb _ _ h, lt-ltb _ _ i)

  pub value_high : 71 ≤ c → value_of c ≡ 16
  unfolding value_of
  value_high h =
      let j : 48 ≤ c = omega arith in
      let k : 58 ≤ c = omega arith in
      let l : 65 ≤ c = omega arith in
      simp (le-ltb _ _ j, le-ltb _ _ k, le-ltb _ _ l, le-ltb _ _ h)

  -- where it is a digit
  value_there : value_of c < 16 → digit_value c ≡ Some (value_of c)
  value_there h = ap (λ (t : Bool). pick t (Some (value_of c)) None) (lt-ltb _ _ h)

-- the value of a number's digit is the number's low four bits
pub value_digit : (n : ℕ) → value_of (digit_of n) ≡ n % 16
value_digit n = go (dec_lt (n % 16) 10)
  where
    go : Dec (n % 16 < 10) → value_of (digit_of n) ≡ n % 16
    go (yes d) =
        let e : digit_of n ≡ 48 + n % 16 = digit_decimal n d in
        value_decimal (digit_of n) (omega arith) (omega arith) ∙ omega arith
    go (no d) =
        let e : digit_of n ≡ 55 + n % 16 = digit_letter n (omega arith) in
        value_letter (digit_of n) (omega arith) (omega arith) ∙ omega arith

pub digit_least : (n : ℕ) → 48 ≤ digit_of n
digit_least n = go (dec_lt (n % 16) 10)
  where
    go : Dec (n % 16 < 10) → 48 ≤ digit_of n
    go (yes d) = omega (arith, digit_decimal n d)
    go (no d) = let h : 10 ≤ n % 16 = omega arith in omega (arith, digit_letter n h)

-- ---- hex_of

pub hex_append : (a b : Octets) → hex_of (a ++ b) ≡ hex_of a ++ hex_of b
unfolding hex_of
hex_append [] b = refl
hex_append (x ∷ a) b = ap (λ (l : Octets). digit_of (x / 16) ∷ digit_of x ∷ l) (hex_append a b)

pub length_hex : (l : Octets) → length (hex_of l) ≡ 2 * length l
unfolding hex_of
length_hex [] = refl
length_hex (x ∷ l) = let e : length (hex_of l) ≡ 2 * length l = length_hex l in omega arith

digit_solid : (n : ℕ) → 32 < digit_of n
digit_solid n = omega (arith, digit_least n)

pub hex_solid : (l : Octets) → Solid (hex_of l)
unfolding hex_of
hex_solid [] = solid_nil
hex_solid (x ∷ l) = solid_cons (digit_solid (x / 16)) (solid_cons (digit_solid x) (hex_solid l))

-- ---- all_digits, is_hex

-- `text.iter().all(..)`
pub digits_all : (l : Octets) → list_all (λ x. ltb (value_of x) 16) l ≡ all_digits l
unfolding all_digits
digits_all [] = refl
digits_all (c ∷ l) = ap (λ (t : Bool). ltb (value_of c) 16 && t) (digits_all l)

digits_at : (l : Octets) → all_digits l ≡ true → (i : ℕ) → i < length l → value_of (get_or l i 0) < 16
unfolding all_digits
digits_at [] e i h = absurd (omega arith)
digits_at (x ∷ l) e zero h = ltb-true _ _ (both (ltb (value_of x) 16) (all_digits l) e).0
digits_at (x ∷ l) e (suc i) h = digits_at l (both (ltb (value_of x) 16) (all_digits l) e).1 i (omega arith)

module _ (l : Octets) (e : is_hex l ≡ true) where
  pub hex_at : (i : ℕ) → i < length l → value_of (get_or l i 0) < 16
  unfolding is_hex
  hex_at = digits_at l (both (eqb (length l % 2) 0) (all_digits l) e).1

  pub digit_at : (i : ℕ) → i < length l → digit_value (get_or l i 0) ≡ Some (value_of (get_or l i 0))
  digit_at i h = value_there (get_or l i 0) (hex_at i h)

-- ---- octets_in

pub length_octets : (l : Octets) → length (octets_in l) ≡ length l / 2
unfolding octets_in
length_octets [] = refl
length_octets (h ∷ []) = refl
length_octets (h ∷ (k ∷ l)) = let e : length (octets_in l) ≡ length l / 2 = length_octets l in omega arith

pub octets_at : (l : Octets) (i : ℕ) → 2 * i + 1 < length l
    → get_or (octets_in l) i 0 ≡ value_of (get_or l (2 * i) 0) * 16 + value_of (get_or l (2 * i + 1) 0)
unfolding octets_in
octets_at [] i h = absurd (omega arith)
octets_at (x ∷ []) i h = absurd (omega arith)
octets_at (x ∷ (y ∷ l)) zero h = refl
octets_at (x ∷ (y ∷ l)) (suc i) h =
    let high : suc (suc (2 * i)) ≡ 2 * suc i = omega arith in
    let low : suc (suc (2 * i + 1)) ≡ 2 * suc i + 1 = omega arith in
    octets_at l i (omega arith)
    ∙ (λ j. value_of (get_or (x ∷ (y ∷ l)) (high j) 0) * 16 + value_of (get_or (x ∷ (y ∷ l)) (low j) 0))

digits_octal : (l : Octets) → all_digits l ≡ true → Octal (octets_in l)
unfolding octets_in all_digits
digits_octal [] e = octal_nil
digits_octal (h ∷ []) e = octal_nil
digits_octal (h ∷ (k ∷ l)) e =
    let one = both (ltb (value_of h) 16) (ltb (value_of k) 16 && all_digits l) e in
    let two = both (ltb (value_of k) 16) (all_digits l) one.1 in
    let high : value_of h < 16 = ltb-true _ _ one.0 in
    let low : value_of k < 16 = ltb-true _ _ two.0 in
    octal_cons {x = value_of h * 16 + value_of k} (omega arith) (digits_octal l two.1)

-- what is read is octets
pub octets_octal : (l : Octets) → is_hex l ≡ true → Octal (octets_in l)
unfolding is_hex
octets_octal l e = digits_octal l (both (eqb (length l % 2) 0) (all_digits l) e).1

-- octets that were written as digits are read again
pub octets_hex : {l : Octets} → Octal l → octets_in (hex_of l) ≡ l
unfolding hex_of octets_in
octets_hex octal_nil = refl
octets_hex (octal_cons {x = x} {l = l} h t) =
    let e : value_of (digit_of (x / 16)) * 16 + value_of (digit_of x) ≡ x = omega (arith, value_digit (x / 16), value_digit x) in
    λ i. e i ∷ octets_hex t i

-- ---- leading_in, decimal_of, number_from

-- the last digit of a number, read after those before it
figure_read : (n tens : ℕ) (l : Octets) → tens ≡ n / 10 → number_from tens (figure_of n ∷ l) ≡ number_from n l
unfolding number_from
figure_read n tens l e =
    let value : figure_of n - 48 ≡ n % 10 = omega arith in
    let whole : tens * 10 + (figure_of n - 48) ≡ n = omega (arith, value) in
    ap (λ (k : ℕ). number_from k l) whole

number_none : (n : ℕ) → number_from n [] ≡ n
unfolding number_from
number_none n = refl

figure_first : (n : ℕ) → n < 10 → 0 ≡ n / 10
figure_first n h = omega arith

module _ (n : ℕ) where
  pub leading_four : n < 10 → leading_in n ≡ 4
  unfolding leading_in
  leading_four h = simp (lt-ltb _ _ h)

  pub leading_three : 10 ≤ n → n < 100 → leading_in n ≡ 3
  unfolding leading_in
  leading_three h k = simp (le-ltb _ _ h, lt-ltb _ _ k)

  pub leading_two : 100 ≤ n → n < 1000 → leading_in n ≡ 2
  unfolding leading_in
  leading_two h k = let i : 10 ≤ n = omega arith in simp (le-ltb _ _ i, le-ltb _ _ h, lt-ltb _ _ k)

  pub leading_one : 1000 ≤ n → n < 10000 → leading_in n ≡ 1
  unfolding leading_in
  leading_one h k =
      let i : 10 ≤ n = omega arith in
      let j : 100 ≤ n = omega arith in
      simp (le-ltb _ _ i, le-ltb _ _ j, le-ltb _ _ h, lt-ltb _ _ k)

  pub leading_none : 10000 ≤ n → leading_in n ≡ 0
  unfolding leading_in
  leading_none h =
      let i : 10 ≤ n = omega arith in
      let j : 100 ≤ n = omega arith in
      let k : 1000 ≤ n = omega arith in
      simp (le-ltb _ _ i, le-ltb _ _ j, le-ltb _ _ k, le-ltb _ _ h)

  -- a fact of how many there are, from the five cases
  leading_by : (P : ℕ → Type 0) → (n < 10 → P 4) → (n < 100 → P 3) → (n < 1000 → P 2) → (n < 10000 → P 1) → P 0 → P (leading_in n)
  leading_by P four three two one none = go (dec_lt n 10) (dec_lt n 100) (dec_lt n 1000) (dec_lt n 10000)
    where
      go : Dec (n < 10) → Dec (n < 100) → Dec (n < 1000) → Dec (n < 10000) → P (leading_in n)
      go (yes h) i j k = rw (leading_four h) (four h)
      go (no h) (yes i) j k = rw (leading_three (omega arith) i) (three i)
      go (no h) (no i) (yes j) k = rw (leading_two (omega arith) j) (two j)
      go (no h) (no i) (no j) (yes k) = rw (leading_one (omega arith) k) (one k)
      go (no h) (no i) (no j) (no k) = rw (leading_none (omega arith)) none

  pub leading_few : leading_in n ≤ 4
  leading_few = leading_by (λ (k : ℕ). k ≤ 4) (λ _. omega arith) (λ _. omega arith) (λ _. omega arith) (λ _. omega arith) (omega arith)

  -- a fact of the number's text, from the five cases
  decimal_by : (P : Octets → Type 0)
      → (n < 10 → P (figure_of n ∷ []))
      → (n < 100 → P (figure_of (n / 10) ∷ figure_of n ∷ []))
      → (n < 1000 → P (figure_of (n / 100) ∷ figure_of (n / 10) ∷ figure_of n ∷ []))
      → (n < 10000 → P (figure_of (n / 1000) ∷ figure_of (n / 100) ∷ figure_of (n / 10) ∷ figure_of n ∷ []))
      → P (figures_of n)
      → P (decimal_of n)
  unfolding decimal_of
  decimal_by P = leading_by (λ (k : ℕ). P (drop k (figures_of n)))

  -- the end of the five digits
  pub decimal_end : take (5 - leading_in n) (drop (leading_in n) (figures_of n)) ≡ decimal_of n
  unfolding decimal_of
  decimal_end = leading_by (λ (k : ℕ). take (5 - k) (drop k (figures_of n)) ≡ drop k (figures_of n)) (λ _. refl) (λ _. refl) (λ _. refl) (λ _. refl) refl

  figure_solid : (d : ℕ) → 32 < figure_of d
  figure_solid d = omega arith

  pub decimal_solid : Solid (decimal_of n)
  decimal_solid =
      let one = solid_cons (figure_solid n) solid_nil in
      let two = solid_cons (figure_solid (n / 10)) one in
      let three = solid_cons (figure_solid (n / 100)) two in
      let four = solid_cons (figure_solid (n / 1000)) three in
      decimal_by Solid (λ _. one) (λ _. two) (λ _. three) (λ _. four) (solid_cons (figure_solid (n / 10000)) four)

  pub length_decimal : length (decimal_of n) ≤ 5
  length_decimal = decimal_by (λ (l : Octets). length l ≤ 5) (λ _. omega arith) (λ _. omega arith) (λ _. omega arith) (λ _. omega arith) (omega arith)

  -- a number that was written is read again
  pub number_decimal : n < 100000 → number_from 0 (decimal_of n) ≡ n
  number_decimal s =
      let ones = figure_read n (n / 10) [] refl ∙ number_none n in
      let tens = figure_read (n / 10) (n / 100) (figure_of n ∷ []) (sym (div-div-eq-div-mul n 10 10)) ∙ ones in
      let hundreds = figure_read (n / 100) (n / 1000) (figure_of (n / 10) ∷ figure_of n ∷ []) (sym (div-div-eq-div-mul n 100 10)) ∙ tens in
      let thousands = figure_read (n / 1000) (n / 10000) (figure_of (n / 100) ∷ figure_of (n / 10) ∷ figure_of n ∷ []) (sym (div-div-eq-div-mul n 1000 10)) ∙ hundreds in
      decimal_by (λ (l : Octets). number_from 0 l ≡ n)
      (λ h. figure_read n 0 _ (figure_first n h) ∙ number_none n)
      (λ h. figure_read (n / 10) 0 _ (figure_first (n / 10) (omega arith)) ∙ ones)
      (λ h. figure_read (n / 100) 0 _ (figure_first (n / 100) (omega arith)) ∙ tens)
      (λ h. figure_read (n / 1000) 0 _ (figure_first (n / 1000) (omega arith)) ∙ hundreds)
      (figure_read (n / 10000) 0 _ (figure_first (n / 10000) (omega arith)) ∙ thousands)
