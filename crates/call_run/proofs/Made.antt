-- A move that no rule refuses, made of the area's own record, comes to what the call of its name comes to.
-- Assumes nothing.
use Prim.Native.Nat.{ℕ}
use mathlib.Core.Path.{◌≡◌, refl, sym, ◌∙◌, subst}
use lib.ListN.{length}
use borrow.Author.Tests.{le-ltb}
use Rattle.std.specs.Prelude.{Option, Some, None, Ok, Err}
use Rattle.std.specs.Result.{result_ok}
use Rattle.octets.specs.Octets.{Octets}
use Rattle.state.specs.Refusal.{Attempt, number_of, number_in}
use Rattle.state.specs.declared.kinds.Record.{Record}
use Rattle.area.specs.Map.{area_size, message_size, wire_slots}
use Rattle.record.specs.Fit.{FitRing, Fit}
use Rattle.record.specs.Reading.{decode_of}
use Rattle.views.specs.View.{view}
use Rattle.views.specs.Moves.{Sound}
use Rattle.model.specs.Effects.{Call, push, down, consume, credit, reply, up}
use Rattle.model.specs.calls.Push.{push_rules}
use Rattle.model.specs.calls.Down.{down_rules}
use Rattle.model.specs.calls.Consume.{consume_rules}
use Rattle.model.specs.calls.Credit.{credit_rules}
use Rattle.model.specs.calls.Reply.{reply_rules}
use Rattle.model.specs.calls.Up.{up_rules}
use Rattle.model.specs.Press.{moves, rests, first_of}
use Rattle.calls.specs.Outcome.{entry_rules, lowest}
use Rattle.calls.specs.Demand.{perform}
use Rattle.calls.specs.Run.{move_on}
use Rattle.calls.specs.calls.Push.{pushed, push_call}
use Rattle.calls.specs.calls.Down.{downed, down_call}
use Rattle.calls.specs.calls.Consume.{consumed, consume_call}
use Rattle.calls.specs.calls.Credit.{credited, credit_call}
use Rattle.calls.specs.calls.Reply.{replied, reply_call}
use Rattle.calls.specs.calls.Up.{upped, up_call}
use Rattle.calls.proofs.Rules.{some_of}
use Rattle.calls.proofs.Called.{sound_area, Entered, entered, called_taken}
use Rattle.calls.proofs.Run.{move_shut, move_entered}
use Rattle.call_run.specs.Moves.{Playable}

module _ (a out : Octets) (r : Record) (c : Call) (p : Playable a out r c) where
  pub no_entry : 0 ≡ lowest (entry_rules a (length out))
  unfolding lowest
  no_entry = rw (le-ltb (length a) area_size p.long, p.judged, le-ltb (length out) message_size p.room) refl

  pub sound : Sound a r
  sound = subst (Sound a) (sym p.own) (sound_area a p.long p.judged)

module _ (a out : Octets) (r : Record) where
  pub made_up : Playable a out r up → upped r a out ≡ perform up a out
  unfolding up_call
  made_up p =
      (λ i. upped (p.own i) a out) ∙ called_taken _ _ a out (no_entry a out r up p) refl (p.none ∙ (λ i. lowest (up_rules (view a (p.own i)))))

  pub made_down : Playable a out r down → downed r a out ≡ perform down a out
  unfolding down_call
  made_down p =
      (λ i. downed (p.own i) a out) ∙ called_taken _ _ a out (no_entry a out r down p) refl (p.none ∙ (λ i. lowest (down_rules (view a (p.own i)))))

  pub made_consume : (c : ℕ) → Playable a out r (consume c) → consumed r c a out ≡ perform (consume c) a out
  unfolding consume_call
  made_consume c p =
      (λ i. consumed (p.own i) c a out)
      ∙ called_taken _ _ a out (no_entry a out r (consume c) p) refl (p.none ∙ (λ i. lowest (consume_rules c (view a (p.own i)))))

  pub made_credit : Playable a out r credit → credited r a out ≡ perform credit a out
  unfolding credit_call
  made_credit p =
      (λ i. credited (p.own i) a out) ∙ called_taken _ _ a out (no_entry a out r credit p) refl (p.none ∙ (λ i. lowest (credit_rules (view a (p.own i)))))

  pub made_push : (c : ℕ) → Playable a out r (push c) → pushed r c a out ≡ perform (push c) a out
  unfolding push_call
  made_push c p =
      (λ i. pushed (p.own i) c a out) ∙ called_taken _ _ a out (no_entry a out r (push c) p) refl (p.none ∙ (λ i. lowest (push_rules c (view a (p.own i)))))

  pub made_reply : Playable a out r reply → replied r a out ≡ perform reply a out
  unfolding reply_call
  made_reply p =
      (λ i. replied (p.own i) a out) ∙ called_taken _ _ a out (no_entry a out r reply p) refl (p.none ∙ (λ i. lowest (reply_rules (view a (p.own i)))))

-- ---- what every call does first

pub loaded_in : (l : Attempt Record) (r : Record) → ◌≡◌ {A = Option Record} (Some r) (result_ok l) → l ≡ Ok r
loaded_in (Ok x) r e = cc
loaded_in (Err x) r e = cc

module _ (a out : Octets) where
  -- not entered: there is no move
  pub none_shut : (l : Attempt Record) → ◌≡◌ {A = Option Record} None (result_ok l) → number_in l ≡ lowest (entry_rules a (length out)) → move_on a out ≡ rests
  none_shut (Ok x) e h = cc
  none_shut (Err x) e h = move_shut a out (number_of x) h (some_of x)

  module _ (r : Record) (own : r ≡ decode_of a) (none : 0 ≡ lowest (entry_rules a (length out))) where
    pub inside : Entered a (length out)
    inside = entered a (length out) none

    pub own_ring : FitRing wire_slots r.down
    own_ring = (subst Fit (sym own) inside.sound.fit).down

    -- the move of the area is the first that its record lets pass
    pub same_move : first_of moves (view a r) ≡ move_on a out
    same_move = (λ i. first_of moves (view a (own i))) ∙ sym (move_entered a out inside.long inside.judged inside.room)
