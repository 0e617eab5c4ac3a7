-- Cases: of a test, of one connection among all, of a list that is empty, of each packet on a wire.
-- Assumes nothing.
use Prim.Native.Nat.{ℕ}
use native.Mathlib.Omega.{arith}
use mathlib.Core.Path.{◌≡◌, refl, subst}
use mathlib.Core.Bool.{Bool, true, false}
use mathlib.Core.List.{List, [], ◌∷◌, ◌++◌, cons≢nil}
use lib.Dec.{eqb}
use lib.ListN.{length}
use borrow.Author.Tests.{eqb-true}
use Rattle.octets.specs.Octets.{Octets}
use Rattle.model.specs.Refusals.{is_nil}
use Rattle.model.specs.Reachable.{Each}

pub clash : {A : Type 0} {b : Bool} → b ≡ true → b ≡ false → A
clash p q = let z : ◌≡◌ {A = ℕ} 0 1 = cc in absurd (omega arith)

-- a statement over all connections, where a call treats one of them, c, apart
pub each : (c : ℕ) (P : ℕ → Bool → Type 0) → P c true → ((d : ℕ) → P d false) → (d : ℕ) → P d (eqb c d)
each c P t f d = go (eqb c d) refl
  where
    go : (b : Bool) → eqb c d ≡ b → P d b
    go true e = subst (λ x. P x true) (eqb-true c d e) t
    go false e = f d

-- ---- lists

pub right_nil : {A : Type 0} (a : List A) {b : List A} → a ++ b ≡ [] → b ≡ []
right_nil [] e = e
right_nil (x ∷ a) e = absurd (cons≢nil e)

pub left_nil : {A : Type 0} (a b : List A) → a ++ b ≡ [] → a ≡ []
left_nil [] b e = refl
left_nil (x ∷ a) b e = absurd (cons≢nil e)

pub nil_of : {A : Type 0} (l : List A) → is_nil l ≡ true → l ≡ []
nil_of [] e = refl
nil_of (x ∷ l) e = clash e refl

pub no_length : {A : Type 0} (l : List A) → length l ≡ 0 → l ≡ []
no_length [] e = refl
no_length (x ∷ l) e = absurd (omega arith)

-- ---- each packet

pub each_append : (P : Octets → Type 0) (a b : List Octets) → Each P a → Each P b → Each P (a ++ b)
each_append P [] b h k = k
each_append P (p ∷ a) b h k = (h.0, each_append P a b h.1 k)

pub each_map : (P Q : Octets → Type 0) (w : List Octets) → ((p : Octets) → P p → Q p) → Each P w → Each Q w
each_map P Q [] f h = tt
each_map P Q (p ∷ w) f h = (f p h.0, each_map P Q w f h.1)
