-- The laws of a call: not entered, refused by its own rules, taken. They are said once for all calls.
-- Assumes nothing.
use Prim.Native.Nat.{ℕ, ◌≤◌}
use mathlib.Core.Path.{◌≡◌, refl, sym, ap, ◌∙◌}
use mathlib.Core.Bool.{Bool, true, false, not}
use mathlib.Core.List.{List, ◌++◌}
use native.Mathlib.Omega.{arith}
use lib.ListN.{length}
use lib.Dec.{ltb}
use borrow.Author.Tests.{ltb-false, le-ltb}
use Rattle.octets.specs.Octets.{Octets, pick}
use Rattle.area.specs.Map.{area_size, message_size}
use Rattle.record.specs.Reading.{decode_of}
use Rattle.record.specs.Judge.{judge_of}
use Rattle.record.proofs.Fits.{judged_fits}
use Rattle.record.proofs.Claims.{decoded_shape}
use Rattle.views.specs.Moves.{Sound}
use Rattle.model.specs.Effects.{Result, taken, refused}
use Rattle.model.specs.Refusals.{Rule, first}
use Rattle.calls.specs.Outcome.{Outcome, outcome, decided, entry_rules, called, lowest}
use Rattle.calls.proofs.Rules.{numbered, or_else, first_append, first_refused, first_taken}

-- ---- what is known of a call that was entered

pub sound_area : (a : Octets) → area_size ≤ length a → judge_of a ≡ true → Sound a (decode_of a)
sound_area a long j = record { room = long; fit = judged_fits a j long; shape = decoded_shape a }

-- the area is long enough, its record is one that row 1 lets pass, the buffer has room for a message
pub record Entered (a : Octets) (size : ℕ) : Type 0 where
  pub long : area_size ≤ length a
  pub judged : judge_of a ≡ true
  pub room : message_size ≤ size
  pub sound : Sound a (decode_of a)

pub entered : (a : Octets) (room : ℕ) → 0 ≡ lowest (entry_rules a room) → Entered a room
unfolding lowest
entered a room e = go (ltb (length a) area_size) (judge_of a) (ltb room message_size) refl refl refl e
  where
    go : (b j s : Bool) → ltb (length a) area_size ≡ b → judge_of a ≡ j → ltb room message_size ≡ s → ◌≡◌ {A = ℕ} 0 (pick b 2 (pick (not j) 1 (pick s 2 0))) → Entered a room
    go true j s p q u h = absurd (omega arith)
    go false false s p q u h = absurd (omega arith)
    go false true true p q u h = absurd (omega arith)
    go false true false p q u h =
        let long : area_size ≤ length a = ltb-false (length a) area_size p in
        record { long = long; judged = q; room = ltb-false room message_size u; sound = sound_area a long q }

-- none of the entry's rules applies
pub enters : (a : Octets) (room : ℕ) → area_size ≤ length a → judge_of a ≡ true → message_size ≤ room → first (entry_rules a room) ≡ taken
unfolding first
enters a room long j r = rw (le-ltb (length a) area_size long, j, le-ltb room message_size r)

-- ---- a call

module _ (rs : List Rule) (o : Outcome) (a out : Octets) where
  called_as : (x : Result) → first (entry_rules a (length out) ++ rs) ≡ x → decided x o a out ≡ called rs o a out
  unfolding called
  called_as x e = ap (λ (y : Result). decided y o a out) (sym e)

  -- in one of the entry's rules
  pub called_unentered : (n : ℕ) → n ≡ lowest (entry_rules a (length out)) → (n ≡ 0 → ⊥) → outcome n a out ≡ called rs o a out
  called_unentered n e ne =
      called_as (refused n)
      (first_append (entry_rules a (length out)) rs
      ∙ ap (λ (x : Result). or_else x (first rs)) (first_refused (entry_rules a (length out)) n e ne))

  -- once entered, its own rules decide
  pub called_own : (x : Result) → first (entry_rules a (length out)) ≡ taken → first rs ≡ x → decided x o a out ≡ called rs o a out
  called_own x t e =
      called_as x (first_append (entry_rules a (length out)) rs ∙ ap (λ (y : Result). or_else y (first rs)) t ∙ e)

  entry_passed : 0 ≡ lowest (entry_rules a (length out)) → first (entry_rules a (length out)) ≡ taken
  entry_passed e = first_taken (entry_rules a (length out)) refl e

  pub called_refused : 0 ≡ lowest (entry_rules a (length out)) → (n : ℕ) → n ≡ lowest rs → (n ≡ 0 → ⊥) → outcome n a out ≡ called rs o a out
  called_refused t n e ne = called_own (refused n) (entry_passed t) (first_refused rs n e ne)

  pub called_taken : 0 ≡ lowest (entry_rules a (length out)) → numbered rs ≡ true → 0 ≡ lowest rs → o ≡ called rs o a out
  called_taken t w e = called_own taken (entry_passed t) (first_taken rs w e)
