-- Lists of rules: the number of the first that applies, and what is known where none does.
-- Assumes nothing.
use Prim.Native.Nat.{ℕ}
use mathlib.Core.Path.{◌≡◌, refl, sym, ap, ◌∙◌}
use mathlib.Core.Bool.{Bool, true, false, ◌&&◌, false≢true}
use mathlib.Core.List.{List, [], ◌∷◌, ◌++◌}
use native.Mathlib.Omega.{arith}
use lib.Dec.{ltb}
use Rattle.std.specs.Prelude.{⊤, Ok, Err}
use Rattle.octets.specs.Octets.{pick}
use Rattle.state.specs.declared.refusal.Refusal.{Refusal}
use Rattle.state.specs.declared.refusal.Refusal.TheVariants as refusal
use Rattle.state.specs.Refusal.{Attempt, number_of, number_in, when}
use Rattle.state.proofs.Chains.{and_left, and_right}
use Rattle.model.specs.Effects.{Result, taken, refused}
use Rattle.model.specs.Refusals.{Rule, first}
use Rattle.calls.specs.Outcome.{lowest}

-- ---- numbers

-- a refusal's number is 1 to 255, so it fits the octet of the answer and is not 0
abbrev pub small : ℕ → Bool
small n = ltb 0 n && ltb n 256

abbrev pub numbered : List Rule → Bool
numbered [] = true
numbered (r ∷ rs) = small r.number && numbered rs

pub refused_small : (rs : List Rule) (n : ℕ) → numbered rs ≡ true → first rs ≡ refused n → small n ≡ true
unfolding first
refused_small [] n w e = absurd (let z : ◌≡◌ {A = ℕ} 0 1 = cc in omega arith)
refused_small (r ∷ rs) n w e = go (refused_small rs n (and_right (small r.number) (numbered rs) w)) r.test e
  where
    number : Result → ℕ
    number taken = 0
    number (refused m) = m

    go : (first rs ≡ refused n → small n ≡ true) → (b : Bool) → pick b (refused r.number) (first rs) ≡ refused n → small n ≡ true
    go ih true h = ap small (sym (ap number h)) ∙ and_left (small r.number) (numbered rs) w
    go ih false h = ih h

-- ---- the first that applies

-- by its number
pub first_refused : (rs : List Rule) (n : ℕ) → n ≡ lowest rs → (n ≡ 0 → ⊥) → first rs ≡ refused n
unfolding lowest first
first_refused [] n e ne = absurd (ne e)
first_refused (r ∷ rs) n e ne = go (λ h. first_refused rs n h ne) r.test e
  where
    go : (n ≡ lowest rs → first rs ≡ refused n) → (b : Bool) → n ≡ pick b r.number (lowest rs) → pick b (refused r.number) (first rs) ≡ refused n
    go ih true h = ap refused (sym h)
    go ih false h = ih h

pub first_taken : (rs : List Rule) → numbered rs ≡ true → 0 ≡ lowest rs → first rs ≡ taken
unfolding lowest first
first_taken [] w e = refl
first_taken (r ∷ rs) w e = go (first_taken rs (and_right (small r.number) (numbered rs) w)) r.test r.number (and_left (small r.number) (numbered rs) w) e
  where
    go : (0 ≡ lowest rs → first rs ≡ taken) → (b : Bool) (n : ℕ) → small n ≡ true → 0 ≡ pick b n (lowest rs) → pick b (refused n) (first rs) ≡ taken
    go ih true n v h = absurd (false≢true (ap small h ∙ v))
    go ih false n v h = ih h

-- ---- rules after rules

abbrev pub or_else : Result → Result → Result
or_else taken r = r
or_else (refused n) r = refused n

pub first_append : (rs qs : List Rule) → first (rs ++ qs) ≡ or_else (first rs) (first qs)
unfolding first
first_append [] qs = refl
first_append (r ∷ rs) qs = go (first_append rs qs) r.test
  where
    go : first (rs ++ qs) ≡ or_else (first rs) (first qs) → (b : Bool)
        → pick b (refused r.number) (first (rs ++ qs)) ≡ or_else (pick b (refused r.number) (first rs)) (first qs)
    go ih true = refl
    go ih false = ih

-- ---- the code's guards: one rule after another

-- no refusal has the number of a call that is taken
pub some_of : (e : Refusal) → number_of e ≡ 0 → ⊥
some_of refusal.RecordDamaged z = omega arith
some_of refusal.TooShort z = omega arith
some_of refusal.OutsideLimit z = omega arith
some_of refusal.TooFewSlots z = omega arith
some_of refusal.Unanswered z = omega arith
some_of refusal.NotOpen z = omega arith
some_of refusal.InHand z = omega arith
some_of refusal.NothingToMove z = omega arith
some_of refusal.NoCredit z = omega arith
some_of refusal.Closing z = omega arith
some_of refusal.NotInThisState z = omega arith
some_of refusal.StoreFull z = omega arith
some_of refusal.WiresNotEmpty z = omega arith
some_of refusal.SendClosing z = omega arith

-- a rule that refuses, and one that lets pass
pub refuses : (e x : Refusal) (b : Bool) → ◌≡◌ {A = Attempt ⊤} (Err x) (when e b) → (number_of x ≡ number_of e) × (b ≡ true)
refuses e x false h = cc
refuses e x true h = (cc, refl)

pub passes : (e : Refusal) (b : Bool) → ◌≡◌ {A = Attempt ⊤} (Ok tt) (when e b) → b ≡ false
passes e false h = refl
passes e true h = cc

-- the last
pub asked : (e : Refusal) (b : Bool) → number_in (when e b) ≡ pick b (number_of e) 0
asked e false = refl
asked e true = refl
