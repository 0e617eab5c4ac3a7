-- Number 13, which the card had: a call that it would not have stopped leaves a good record; and with it and without, the bench answers every list of calls
-- from a fresh one the same.
-- Assumes nothing.
use Prim.Native.Nat.{◌+◌, ◌≤◌}
use mathlib.Core.Path.{◌≡◌, refl, sym, ap, ◌∙◌, subst}
use mathlib.Core.Bool.{Bool, true, false}
use mathlib.Core.List.{List, [], ◌∷◌, ◌++◌}
use lib.ListN.{length}
use lib.Dec.{ltb}
use borrow.Author.Tests.{ltb-true, ltb-false}
use Rattle.octets.specs.Octets.{Octets}
use Rattle.area.specs.Map.{message_size}
use Rattle.record.specs.Reading.{decode_of}
use Rattle.record.proofs.Fits.{judged_granted}
use Rattle.views.specs.View.{view_of}
use Rattle.views.proofs.Credits.{granted_view}
use Rattle.model.specs.Effects.{Call, fresh, power, command, send, push, down, consume, credit, air, reply, up, report, Result, taken, refused}
use Rattle.model.specs.Refusals.{Rule, rule, first}
use Rattle.model.specs.Observer.{Account, opening, observe}
use Rattle.model.specs.Bench.{rules}
use Rattle.model.specs.Grants.{WithinGrants, past_grant}
use Rattle.model.proofs.Never.{kept_rules}
use Rattle.model.proofs.Within.{step_within}
use Rattle.calls.specs.Word.{answer_in}
use Rattle.calls.specs.Outcome.{Outcome, decided, entry_rules, called}
use Rattle.calls.specs.Seen.{Puts, no_puts, puts_after, seen_by}
use Rattle.calls.specs.Refines.{Good}
use Rattle.calls.specs.calls.Consume.{consume_call}
use Rattle.calls.specs.calls.Up.{up_call}
use Rattle.calls.specs.calls.Fresh.{fresh_call}
use Rattle.calls.specs.Demand.{Key, perform, pressed, AllOctal}
use Rattle.calls.specs.Checked.{perform_checked, pressed_checked, outcomes, StaysGood, SameAsChecked}
use Rattle.calls.proofs.Rules.{or_else, first_append}
use Rattle.calls.proofs.Called.{enters, called_own}
use Rattle.calls.proofs.Refine.{refined_good}
use Rattle.calls.proofs.Demand.{all_refine, short_buffer, Stands, press, starts_standing}

-- ---- on any good record

good_within : (a : Octets) → Good a → WithinGrants (view_of a)
good_within a g = granted_view a (decode_of a) (judged_granted a g.judged)

-- packets put so far that the record's own rings would follow
abbrev puts_of : Octets → Puts
puts_of a = record { down = (decode_of a).down.head + (decode_of a).down.count; up = (decode_of a).up.head + (decode_of a).up.count }

module _ (a out : Octets) (g : Good a) (room : message_size ≤ length out) where
  -- where none of the others applies, a last rule of 13 does
  answers_13 : (rs : List Rule) (o : Outcome) → first rs ≡ taken → answer_in (called (rs ++ (rule 13 true ∷ [])) o a out).word ≡ refused 13
  unfolding first answer_in
  answers_13 rs o t =
      ap (λ (x : Outcome). answer_in x.word)
      (sym (called_own (rs ++ (rule 13 true ∷ [])) o a out (refused 13) (enters a (length out) g.long g.judged room)
      (first_append rs (rule 13 true ∷ []) ∙ ap (λ (x : Result). or_else x (refused 13)) t)))

  -- so the question was answered no where the call did not answer 13
  answered_no : (rs : List Rule) (o : Outcome) (b : Bool) → (answer_in (called (rs ++ (rule 13 b ∷ [])) o a out).word ≡ refused 13 → ⊥) → first rs ≡ taken → b ≡ false
  answered_no rs o true e t = absurd (e (answers_13 rs o t))
  answered_no rs o false e t = refl

  not_past : (c : Call) → (answer_in (perform_checked c a out).word ≡ refused 13 → ⊥) → first (rules c (view_of a)) ≡ taken → past_grant c (view_of a) ≡ false
  not_past (fresh m) e t = refl
  not_past power e t = refl
  not_past (command gid oid m) e t = refl
  not_past (send c m) e t = refl
  not_past (push c) e t = refl
  not_past down e t = refl
  not_past (consume c) e t = answered_no _ _ _ e t
  not_past credit e t = refl
  not_past (air m) e t = refl
  not_past reply e t = refl
  not_past up e t = answered_no _ _ _ e t
  not_past (report c) e t = refl

pub stays_good : StaysGood
stays_good k a v g e = go (ltb (length k.out) message_size) refl
  where
    go : (b : Bool) → ltb (length k.out) message_size ≡ b → Good (pressed k a).area
    go true t = subst (λ (x : Outcome). Good x.area) (short_buffer a k.out g (ltb-true (length k.out) message_size t) k.call) g
    go false t =
        let room = ltb-false (length k.out) message_size t in
        refined_good k.call (puts_of a) a (pressed k a) g (all_refine k.call (puts_of a) a k.out v g room (record { down = refl; up = refl }))
        (step_within k.call (view_of a) (not_past a k.out g room k.call e) (good_within a g))

-- ---- from a fresh bench

-- a call goes by the first of its rules that applies
called_same : (rs qs : List Rule) (o : Outcome) (a out : Octets) → first rs ≡ first qs → called rs o a out ≡ called qs o a out
unfolding called
called_same rs qs o a out e =
    ap (λ (x : Result). decided x o a out)
    (first_append (entry_rules a (length out)) rs ∙ ap (or_else (first (entry_rules a (length out)))) e ∙ sym (first_append (entry_rules a (length out)) qs))

module _ (a : Octets) (p : Puts) (o : Account) (s : Stands a p o) (out : Octets) where
  same_call : (c : Call) → perform_checked c a out ≡ perform c a out
  unfolding consume_call up_call
  same_call (fresh m) = refl
  same_call power = refl
  same_call (command gid oid m) = refl
  same_call (send c m) = refl
  same_call (push c) = refl
  same_call down = refl
  same_call (consume c) = called_same _ _ _ a out (kept_rules (view_of a) o s.keeps (consume c))
  same_call credit = refl
  same_call (air m) = refl
  same_call reply = refl
  same_call up = called_same _ _ _ a out (kept_rules (view_of a) o s.keeps up)
  same_call (report c) = refl

same_list : (ks : List Key) → AllOctal ks → (a : Octets) (p : Puts) (o : Account) → Stands a p o → outcomes pressed_checked ks a ≡ outcomes pressed ks a
unfolding outcomes
same_list [] v a p o s = refl
same_list (k ∷ ks) v a p o s =
    ap (λ (x : Outcome). x ∷ outcomes pressed_checked ks x.area) (same_call a p o s k.out k.call)
    ∙ ap (λ (l : List Outcome). pressed k a ∷ l)
    (same_list ks v.1 (pressed k a).area (puts_after k.call p (pressed k a).word) (observe (seen_by k.call p (pressed k a)) o) (press k v.0 a p o s))

pub same_as_checked : SameAsChecked
same_as_checked area out m v e keys w = same_list keys w (fresh_call area out m).area no_puts opening (starts_standing area out m v e)
