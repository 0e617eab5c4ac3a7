-- Run to rest: a press is its moves, each the first that is possible; its limit is never reached; presses make no more moves than `most`.
-- Assumes nothing.
use Prim.Native.Nat.{ℕ, zero, suc, ◌+◌, ◌≤◌, ◌<◌}
use native.Mathlib.Omega.{arith}
use mathlib.Core.Path.{◌≡◌, refl, sym, ap, ◌∙◌, subst}
use mathlib.Core.Logic.{◌⊎◌, inl, inr}
use mathlib.Core.Bool.{Bool, true, false}
use mathlib.Core.List.{List, [], ◌∷◌, ◌++◌, cons≢nil}
use lib.ListN.{length}
use Rattle.octets.specs.Octets.{Octets}
use Rattle.model.specs.State.{State}
use Rattle.model.specs.Effects.{Call, Result, taken, refused, is_taken}
use Rattle.model.specs.Refusals.{first}
use Rattle.model.specs.Bench.{rules, act, judged, step}
use Rattle.model.specs.Observer.{after}
use Rattle.model.specs.Press.{moves, possible, Move, rests, plays, first_of, move, most, goes_on, press_by, press_within, press, presses}
use Rattle.model.specs.Rest.{Unlimited, bound}
use Rattle.model.proofs.Cases.{clash}
use Rattle.model.proofs.Falling.{IsMove, move_falls, debt_one}

-- ---- the first possible of a list of calls

-- c is that one: it is possible, and those before it are not
abbrev pub Chosen : List Call → Call → State → Type 0
Chosen [] c s = ⊥
Chosen (x ∷ cs) c s = ((x ≡ c) × (possible x s ≡ true)) ⊎ ((possible x s ≡ false) × Chosen cs c s)

-- none of them is
abbrev pub NoneOf : List Call → State → Type 0
NoneOf [] s = Unit {0}
NoneOf (x ∷ cs) s = (possible x s ≡ false) × NoneOf cs s

pub chosen : (cs : List Call) (c : Call) (s : State) → first_of cs s ≡ plays c → Chosen cs c s
unfolding first_of
chosen [] c s e = let z : ◌≡◌ {A = ℕ} 0 1 = cc in absurd (omega arith)
chosen (x ∷ cs) c s e = go (chosen cs c s) (possible x s) refl
  where
    go : (first_of cs s ≡ plays c → Chosen cs c s) → (b : Bool) → possible x s ≡ b → Chosen (x ∷ cs) c s
    go ih true t = let f : plays x ≡ plays c = rw t at e in inl ((cc), t)
    go ih false t = inr (t, ih (rw t at e))

pub none_of : (cs : List Call) (s : State) → first_of cs s ≡ rests → NoneOf cs s
unfolding first_of
none_of [] s e = tt
none_of (x ∷ cs) s e = go (none_of cs s) (possible x s) refl
  where
    go : (first_of cs s ≡ rests → NoneOf cs s) → (b : Bool) → possible x s ≡ b → NoneOf (x ∷ cs) s
    go ih true t = let f : plays x ≡ rests = rw t at e in let z : ◌≡◌ {A = ℕ} 0 1 = cc in absurd (omega arith)
    go ih false t = (t, ih (rw t at e))

-- of two lists
pub none_left : (a b : List Call) (s : State) → NoneOf (a ++ b) s → NoneOf a s
none_left [] b s n = tt
none_left (x ∷ a) b s n = (n.0, none_left a b s n.1)

pub none_right : (a b : List Call) (s : State) → NoneOf (a ++ b) s → NoneOf b s
none_right [] b s n = n
none_right (x ∷ a) b s n = none_right a b s n.1

pub chosen_append : (a b : List Call) (c : Call) (s : State) → Chosen (a ++ b) c s → Chosen a c s ⊎ (NoneOf a s × Chosen b c s)
chosen_append [] b c s h = inr (tt, h)
chosen_append (x ∷ a) b c s (inl h) = inl (inl h)
chosen_append (x ∷ a) b c s (inr h) = go (chosen_append a b c s h.1)
  where
    go : Chosen a c s ⊎ (NoneOf a s × Chosen b c s) → Chosen (x ∷ a) c s ⊎ (NoneOf (x ∷ a) s × Chosen b c s)
    go (inl k) = inl (inr (h.0, k))
    go (inr k) = inr ((h.0, k.0), k.1)

pub possible_taken : (c : Call) (s : State) → possible c s ≡ true → first (rules c s) ≡ taken
possible_taken c s = go (first (rules c s))
  where
    go : (r : Result) → is_taken r ≡ true → r ≡ taken
    go taken e = refl
    go (refused n) e = clash e refl

-- one of these calls, each with P
abbrev pub Every : (Call → Type 0) → List Call → Type 0
Every P [] = Unit {0}
Every P (c ∷ cs) = P c × Every P cs

pub one_of : (P : Call → Type 0) (cs : List Call) (c : Call) (s : State) → Every P cs → Chosen cs c s → P c × (possible c s ≡ true)
one_of P [] c s a h = absurd h
one_of P (x ∷ cs) c s a (inl h) = (subst P h.0 a.0, subst (λ (y : Call). possible y s ≡ true) h.0 h.1)
one_of P (x ∷ cs) c s a (inr h) = one_of P cs c s a.1 h.1

-- ---- the move of a state

module _ (c : Call) (s : State) (e : move s ≡ plays c) where
  pub is_move : IsMove c × (possible c s ≡ true)
  is_move = one_of IsMove moves c s (tt, (tt, (tt, (tt, (tt, (tt, (tt, (tt, (tt, (tt, (tt, (tt, (tt, (tt, tt)))))))))))))) (chosen moves c s e)

  pub move_taken : first (rules c s) ≡ taken
  move_taken = possible_taken c s is_move.1

  pub most_falls : most (act c s).next < most s
  most_falls = move_falls c s is_move.0 move_taken

  pub step_next : (step c s).effect.next ≡ (act c s).next
  unfolding step
  step_next = ap (λ (r : Result). (judged r c s).effect.next) move_taken

  pub step_message : (step c s).effect.message ≡ (act c s).message
  unfolding step
  step_message = ap (λ (r : Result). (judged r c s).effect.message) move_taken

-- ---- the calls of presses, each the move of the state before it

abbrev pub Played : List Call → State → Type 0
Played [] s = Unit {0}
Played (c ∷ cs) s = (move s ≡ plays c) × Played cs (act c s).next

pub after_move : (c : Call) (cs : List Call) (s : State) → move s ≡ plays c → after (c ∷ cs) s ≡ after cs (act c s).next
unfolding after
after_move c cs s e = ap (after cs) (step_next c s e)

pub after_append : (a b : List Call) (s : State) → after (a ++ b) s ≡ after b (after a s)
unfolding after
after_append [] b s = refl
after_append (c ∷ a) b s = after_append a b (step c s).effect.next

played_append : (a b : List Call) (s : State) → Played a s → Played b (after a s) → Played (a ++ b) s
unfolding after
played_append [] b s p q = q
played_append (c ∷ a) b s p q = (p.0, played_append a b (act c s).next p.1 (subst (Played b) (after_move c a s p.0) q))

within_played : (n : ℕ) (s : State) → Played (press_within n s) s
unfolding press_within
within_played zero s = tt
within_played (suc n) s = go (within_played n) (move s) refl
  where
    go : ((z : State) → Played (press_within n z) z) → (m : Move) → move s ≡ m → Played (press_by (press_within n) m s) s
    go ih rests e = tt
    go ih (plays c) e = (e, on_message (act c s).message)
      where
        on_message : (ms : List Octets) → Played (goes_on ms (press_within n (act c s).next)) (act c s).next
        on_message [] = ih (act c s).next
        on_message (m ∷ ms) = tt

pub press_played : (s : State) → Played (press s) s
unfolding press
press_played s = within_played (most s) s

-- so each is a move
pub played_moves : (cs : List Call) (s : State) → Played cs s → Every IsMove cs
played_moves [] s p = tt
played_moves (c ∷ cs) s p = ((is_move c s p.0).0, played_moves cs (act c s).next p.1)

pub presses_played : (n : ℕ) (s : State) → Played (presses n s) s
unfolding presses
presses_played zero s = tt
presses_played (suc n) s = played_append (press s) (presses n (after (press s) s)) s (press_played s) (presses_played n (after (press s) s))

-- each move lowers `most`
pub played_most : (cs : List Call) (s : State) → Played cs s → length cs + most (after cs s) ≤ most s
unfolding after
played_most [] s p = omega arith
played_most (c ∷ cs) s p =
    omega (arith, ap most (after_move c cs s p.0), played_most cs (act c s).next p.1, most_falls c s p.0)

-- ---- the limit of a press is never reached

pub enough : (n m : ℕ) (s : State) → most s ≤ n → most s ≤ m → press_within n s ≡ press_within m s
unfolding press_within
enough zero zero s p q = refl
enough zero (suc m) s p q = go (move s) refl
  where
    go : (v : Move) → move s ≡ v → [] ≡ press_by (press_within m) v s
    go rests e = refl
    go (plays c) e = absurd (omega (arith, most_falls c s e))
enough (suc n) zero s p q = go (move s) refl
  where
    go : (v : Move) → move s ≡ v → press_by (press_within n) v s ≡ []
    go rests e = refl
    go (plays c) e = absurd (omega (arith, most_falls c s e))
enough (suc n) (suc m) s p q = go (λ z a b. enough n m z a b) (move s) refl
  where
    go : ((z : State) → most z ≤ n → most z ≤ m → press_within n z ≡ press_within m z)
        → (v : Move) → move s ≡ v → press_by (press_within n) v s ≡ press_by (press_within m) v s
    go ih rests e = refl
    go ih (plays c) e =
        ap (λ (cs : List Call). c ∷ goes_on (act c s).message cs)
        (ih (act c s).next (omega (arith, most_falls c s e)) (omega (arith, most_falls c s e)))

pub unlimited : Unlimited
unfolding press press_within
unlimited s = enough (most s) (suc (most s)) s (omega arith) (omega arith) ∙ go (move s) refl
  where
    go : (v : Move) → move s ≡ v → press_by (press_within (most s)) v s ≡ press_by press v s
    go rests e = refl
    go (plays c) e =
        ap (λ (cs : List Call). c ∷ goes_on (act c s).message cs)
        (enough (most s) (most (act c s).next) (act c s).next (omega (arith, most_falls c s e)) (omega arith))

-- a press that makes no move finds none
pub no_move : (s : State) → press s ≡ [] → move s ≡ rests
no_move s e = go (move s) refl
  where
    go : (v : Move) → move s ≡ v → v ≡ rests
    go rests m = refl
    go (plays c) m = absurd (cons≢nil (sym (ap (λ (v : Move). press_by press v s) m) ∙ sym (unlimited s) ∙ e))

-- ---- presses until one makes none

pub within_most : (n : ℕ) (s : State) → length (presses n s) + most (after (presses n s) s) ≤ most s
within_most n s = played_most (presses n s) s (presses_played n s)

pub most_bound : (s : State) → most s ≤ bound s
most_bound s = omega (arith, debt_one s)

pub resting : (n : ℕ) (s : State) → press s ≡ [] → presses n s ≡ []
unfolding presses after
resting zero s e = refl
resting (suc n) s e = rw e (resting n s e)

pub settles : (n : ℕ) (s : State) → most s ≤ n → press (after (presses n s) s) ≡ []
unfolding presses after
settles zero s h = none (press s) (press_played s)
  where
    none : (cs : List Call) → Played cs s → cs ≡ []
    none [] p = refl
    none (c ∷ cs) p = absurd (omega (arith, most_falls c s p.0))
settles (suc n) s h = go (settles n (after (press s) s)) (press s) refl
  where
    go : (most (after (press s) s) ≤ n → press (after (presses n (after (press s) s)) (after (press s) s)) ≡ []) → (cs : List Call) → press s ≡ cs
        → press (after (press s ++ presses n (after (press s) s)) s) ≡ []
    go ih [] e = rw (e, resting n s e) e
    go ih (c ∷ cs) e =
        rw after_append
        (ih (omega (arith, played_most (press s) s (press_played s), ap length e)))
