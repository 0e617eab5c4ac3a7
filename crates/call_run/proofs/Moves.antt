-- The moves as the code tries them: the first whose guard answers no refusal is the first possible of the model's.
-- Assumes nothing.
use Prim.Native.Nat.{ℕ, zero, suc, ◌+◌, ◌≤◌, ◌<◌}
use native.Mathlib.Omega.{arith}
use native.Mathlib.Numerals.{add-one}
use mathlib.Core.Path.{◌≡◌, refl, sym, ap, ◌∙◌}
use mathlib.Core.Bool.{true, false}
use mathlib.Core.List.{List, [], ◌∷◌, map}
use lib.ListN.{length, get_or, drop}
use Rattle.std.specs.Prelude.{⊤, Ok, Err}
use Rattle.std.specs.Result.{is_ok}
use Rattle.octets.specs.Octets.{pick}
use Rattle.state.specs.Refusal.{Attempt, number_in}
use Rattle.model.specs.State.{State}
use Rattle.model.specs.Effects.{Call, is_taken}
use Rattle.model.specs.Bench.{rules}
use Rattle.model.specs.Press.{moves, possible, rests, plays, first_of}
use Rattle.calls.specs.Outcome.{lowest}
use Rattle.calls.proofs.Rules.{numbered, first_refused, first_taken, some_of}
use Rattle.call_run.specs.declared.choice.Move.{Move}
use Rattle.call_run.specs.declared.choice.Move.TheVariants as move
use Rattle.call_run.specs.declared.choice.Move.TheVariants.{Up, Down, Consume, Credit, Push, Reply}
use Rattle.call_run.specs.Moves.{call_of}

abbrev pub order : List Move
order =
    Up ∷ Down ∷ Consume 0 ∷ Consume 2 ∷ Consume 3 ∷ Consume 4 ∷ Consume 5 ∷ Credit ∷ Push 0 ∷ Push 2 ∷ Push 3 ∷ Push 4 ∷ Push 5 ∷ Reply ∷ []

-- the code's order is the model's
same_order : map call_of order ≡ moves
same_order = refl

-- ---- a guard's answer

pub none_in : (r : Attempt ⊤) → is_ok r ≡ true → 0 ≡ number_in r
none_in (Ok x) e = refl
none_in (Err x) e = cc

pub some_in : (r : Attempt ⊤) → is_ok r ≡ false → number_in r ≡ 0 → ⊥
some_in (Ok x) e = let z : true ≡ false = e in cc
some_in (Err x) e = some_of x

numbered_move : (m : Move) (s : State) → numbered (rules (call_of m) s) ≡ true
numbered_move move.Up s = refl
numbered_move move.Down s = refl
numbered_move (move.Consume c) s = refl
numbered_move move.Credit s = refl
numbered_move (move.Push c) s = refl
numbered_move move.Reply s = refl

-- ---- the first that is possible

module _ (s : State) where
  -- the move of an index, before those after it
  from_here : (ms : List Move) (i : ℕ) → i < length ms
      → pick (possible (call_of (get_or ms i Up)) s) (plays (call_of (get_or ms i Up))) (first_of (drop (suc i) (map call_of ms)) s) ≡ first_of (drop i (map call_of ms)) s
  unfolding first_of
  from_here [] i h = absurd (omega arith)
  from_here (m ∷ ms) zero h = refl
  from_here (m ∷ ms) (suc i) h = from_here ms i (omega arith)

  module _ (i : ℕ) (h : i < 14) where
    abbrev here : Call
    here = call_of (get_or order i Up)

    pub possible_here : (r : Attempt ⊤) → is_ok r ≡ true → number_in r ≡ lowest (rules here s) → plays here ≡ first_of (drop i moves) s
    possible_here r o e =
        (λ k. pick (is_taken (sym (first_taken (rules here s) (numbered_move (get_or order i Up) s) (none_in r o ∙ e)) k)) (plays here) (first_of (drop (suc i) moves) s))
        ∙ from_here order i h

    pub refused_here : (r : Attempt ⊤) → is_ok r ≡ false → number_in r ≡ lowest (rules here s) → first_of (drop (i + 1) moves) s ≡ first_of (drop i moves) s
    refused_here r o e =
        ap (λ (n : ℕ). first_of (drop n moves) s) (add-one i)
        ∙ (λ k. pick (is_taken (sym (first_refused (rules here s) (number_in r) e (some_in r o)) k)) (plays here) (first_of (drop (suc i) moves) s))
        ∙ from_here order i h

pub none_here : (s : State) (i : ℕ) → 14 ≤ i → i ≤ 14 → rests ≡ first_of (drop i moves) s
unfolding first_of
none_here s i l h = let e : 14 ≡ i = omega arith in ap (λ (n : ℕ). first_of (drop n moves) s) e
