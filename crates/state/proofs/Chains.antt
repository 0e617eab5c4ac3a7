-- Laws that several proofs share: what a chain of tests says of each test in it, and a list as its elements.
-- Assumes nothing.
use Prim.Native.Nat.{ℕ, zero, suc, ◌+◌, ◌≤◌}
use mathlib.Core.Path.{◌≡◌, refl, sym, ap, ◌∙◌}
use mathlib.Core.Bool.{Bool, true, false, ◌&&◌, ◌||◌, false≢true}
use mathlib.Core.List.{List, [], ◌∷◌, ◌++◌}
use native.Mathlib.Omega.{arith}
use lib.ListN.{length, get_or, drop}
use lib.Seq.{drop-cons}
use Rattle.octets.specs.Octets.{Octets, pick}

-- ---- chains of tests

-- `b && x && .. && y`, as it is bracketed
abbrev pub every : Bool → List Bool → Bool
every b [] = b
every b (x ∷ l) = every (b && x) l

pub and_left : (a b : Bool) → (a && b) ≡ true → a ≡ true
and_left true b e = refl
and_left false b e = e

pub and_right : (a b : Bool) → (a && b) ≡ true → b ≡ true
and_right true b e = e
and_right false b e = absurd (false≢true e)

pub or_left : (a b : Bool) → (a || b) ≡ false → a ≡ false
or_left true b e = e
or_left false b e = refl

pub or_right : (a b : Bool) → (a || b) ≡ false → b ≡ false
or_right true b e = absurd (false≢true (sym e))
or_right false b e = e

every_first : (b : Bool) (l : List Bool) → every b l ≡ true → b ≡ true
every_first b [] h = h
every_first b (x ∷ l) h = and_left b x (every_first (b && x) l h)

-- each test of a chain that holds
pub every_at : (b : Bool) (l : List Bool) → every b l ≡ true → (i : ℕ) → get_or (b ∷ l) i true ≡ true
every_at b l h zero = every_first b l h
every_at b [] h (suc i) = refl
every_at b (x ∷ l) h (suc zero) = and_right b x (every_first (b && x) l h)
every_at b (x ∷ l) h (suc (suc i)) = every_at (b && x) l h (suc i)

-- a test goes one way or the other
pub on : {A : Type 0} (P : A → Type 0) (b : Bool) {x y : A} → (b ≡ true → P x) → (b ≡ false → P y) → P (pick b x y)
on P true p q = p refl
on P false p q = q refl

-- a fact of what a test picks, from both cases
pub pick_by : {A : Type 0} (P : A → Type 0) (b : Bool) (x y : A) → (b ≡ true → P x) → P y → P (pick b x y)
pick_by P true x y f h = f refl
pick_by P false x y f h = h

pub pick_same : {A : Type 0} (b : Bool) (x : A) → pick b x x ≡ x
pick_same true x = refl
pick_same false x = refl

-- ---- a list as its elements

-- the k elements from index i on
abbrev pub elements : Octets → ℕ → ℕ → Octets
elements l i zero = []
elements l i (suc k) = get_or l i 0 ∷ elements l (suc i) k

pub elements_are : (l : Octets) (k i : ℕ) → i + k ≤ length l → elements l i k ++ drop (i + k) l ≡ drop i l
elements_are l zero i h =
    let e : i + zero ≡ i = omega arith in
    ap (λ (j : ℕ). drop j l) e
elements_are l (suc k) i h =
    let e : i + suc k ≡ suc i + k = omega arith in
    ap (λ (j : ℕ). get_or l i 0 ∷ (elements l (suc i) k ++ drop j l)) e
    ∙ ap (λ (t : Octets). get_or l i 0 ∷ t) (elements_are l k (suc i) (omega arith))
    ∙ sym (drop-cons l i 0 (omega arith))
