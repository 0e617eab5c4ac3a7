-- What a call that is taken tells: none of its refusals applies. A proof fetches one by its number, so a new refusal moves no proof.
-- Assumes nothing.
use Prim.Native.Nat.{ℕ}
use mathlib.Core.Path.{◌≡◌, refl}
use mathlib.Core.Bool.{Bool, true, false}
use mathlib.Core.List.{List, [], ◌∷◌}
use lib.Dec.{eqb}
use Rattle.octets.specs.Octets.{pick}
use Rattle.model.specs.Effects.{taken}
use Rattle.model.specs.Refusals.{Rule, first}

-- whether the refusal of number n applies
abbrev pub applies : ℕ → List Rule → Bool
applies n [] = false
applies n (r ∷ rs) = pick (eqb r.number n) r.test (applies n rs)

-- a call that is taken meets none of its refusals
pub need : (n : ℕ) (rs : List Rule) → first rs ≡ taken → applies n rs ≡ false
unfolding first
need n [] e = refl
need n (r ∷ rs) e = go (need n rs) r.test refl
  where
    go : (first rs ≡ taken → applies n rs ≡ false) → (b : Bool) → r.test ≡ b → applies n (r ∷ rs) ≡ false
    go ih true t = cc (rw t at e)
    go ih false t = elim (eqb r.number n) as (λ b. pick b r.test (applies n rs) ≡ false) [ true ↦ t | false ↦ ih (rw t at e) ]
