-- On a bench that calls from a fresh one have made, no call answers 1, none answers 2 where its buffer has room, and none brings credits past a grant.
-- Assumes nothing.
use Prim.Native.Nat.{ℕ, ◌≤◌, ◌<◌}
use mathlib.Core.Path.{◌≡◌, refl, sym, ap, ◌∙◌}
use mathlib.Core.Bool.{Bool, true, false}
use native.Mathlib.Omega.{arith}
use lib.ListN.{length}
use lib.Dec.{ltb}
use borrow.Author.Tests.{ltb-true, ltb-false}
use Rattle.octets.specs.Octets.{Octets}
use Rattle.octets.specs.Octal.{Octal}
use Rattle.area.specs.Map.{message_size}
use Rattle.views.specs.View.{view_of}
use Rattle.model.specs.State.{State}
use Rattle.model.specs.Effects.{Call, fresh, power, command, send, push, down, consume, credit, air, reply, up, report, Result, taken, refused}
use Rattle.model.specs.Refusals.{first}
use Rattle.model.specs.Bench.{rules, step}
use Rattle.model.specs.Observer.{Event, Account}
use Rattle.model.proofs.Never.{mentions, not_among, answer_first, kept_never}
use Rattle.calls.specs.Word.{answer_in}
use Rattle.calls.specs.Outcome.{Outcome}
use Rattle.calls.specs.Seen.{Puts}
use Rattle.calls.specs.Demand.{Key, pressed, slice}
use Rattle.calls.specs.Reached.{Reached, AlwaysReached}
use Rattle.calls.proofs.Demand.{all_refine, short_buffer, Stands, run_stands}

-- ---- the model's rules begin with 3

-- refusals 1 and 2 are the entry's alone
unsaid_1 : (c : Call) (s : State) → mentions 1 (rules c s) ≡ false
unsaid_1 (fresh m) s = refl
unsaid_1 power s = refl
unsaid_1 (command gid oid m) s = refl
unsaid_1 (send c m) s = refl
unsaid_1 (push c) s = refl
unsaid_1 down s = refl
unsaid_1 (consume c) s = refl
unsaid_1 credit s = refl
unsaid_1 (air m) s = refl
unsaid_1 reply s = refl
unsaid_1 up s = refl
unsaid_1 (report c) s = refl

unsaid_2 : (c : Call) (s : State) → mentions 2 (rules c s) ≡ false
unsaid_2 (fresh m) s = refl
unsaid_2 power s = refl
unsaid_2 (command gid oid m) s = refl
unsaid_2 (send c m) s = refl
unsaid_2 (push c) s = refl
unsaid_2 down s = refl
unsaid_2 (consume c) s = refl
unsaid_2 credit s = refl
unsaid_2 (air m) s = refl
unsaid_2 reply s = refl
unsaid_2 up s = refl
unsaid_2 (report c) s = refl

-- so they are not its answer
never_said : (n : ℕ) (c : Call) (s : State) → 0 < n → mentions n (rules c s) ≡ false → (step c s).answer ≡ refused n → ⊥
unfolding step
never_said n c s z m e = not_among n (rules c s) z m (sym (answer_first (first (rules c s)) c s) ∙ e)

-- ---- on octets

-- a refusal, as a number
abbrev coded : Result → ℕ
coded taken = 0
coded (refused n) = n

module _ (a : Octets) (p : Puts) (o : Account) (s : Stands a p o) (k : Key) (v : Octal (slice k.call)) where
  -- with room in the buffer the answer is the model's
  same_answer : message_size ≤ length k.out → answer_in (pressed k a).word ≡ (step k.call (view_of a)).answer
  same_answer room = ap (λ (x : Event). x.answer) (all_refine k.call p a k.out v s.good room s.along).event

  -- without, it is 2
  short_answer : length k.out < message_size → answer_in (pressed k a).word ≡ refused 2
  unfolding answer_in
  short_answer short = sym (ap (λ (x : Outcome). answer_in x.word) (short_buffer a k.out s.good short k.call))

  -- a number other than 2 that the model does not answer is not answered on octets
  never_answered : (n : ℕ) → (n ≡ 2 → ⊥) → ((step k.call (view_of a)).answer ≡ refused n → ⊥) → answer_in (pressed k a).word ≡ refused n → ⊥
  never_answered n other h e = go (ltb (length k.out) message_size) refl
    where
      go : (b : Bool) → ltb (length k.out) message_size ≡ b → ⊥
      go true t = other (ap coded (sym e ∙ short_answer (ltb-true (length k.out) message_size t)))
      go false t = h (sym (same_answer (ltb-false (length k.out) message_size t)) ∙ e)

  -- of a call that is taken on octets, none of the model's rules applies
  taken_rules : answer_in (pressed k a).word ≡ taken → first (rules k.call (view_of a)) ≡ taken
  unfolding step
  taken_rules e = go (ltb (length k.out) message_size) refl
    where
      go : (b : Bool) → ltb (length k.out) message_size ≡ b → first (rules k.call (view_of a)) ≡ taken
      go true t = absurd (let z : 0 ≡ 2 = ap coded (sym e ∙ short_answer (ltb-true (length k.out) message_size t)) in omega arith)
      go false t =
          sym (answer_first (first (rules k.call (view_of a))) k.call (view_of a)) ∙ sym (same_answer (ltb-false (length k.out) message_size t)) ∙ e

stands_reached : (a : Octets) (p : Puts) (o : Account) → Stands a p o → Reached a
stands_reached a p o s =
    record {
      long = s.good.long;
      judged = s.good.judged;
      never_1 = λ k v. never_answered a p o s k v 1 (λ z. omega arith) (never_said 1 k.call (view_of a) (omega arith) (unsaid_1 k.call (view_of a)));
      never_2 = λ k v room e. never_said 2 k.call (view_of a) (omega arith) (unsaid_2 k.call (view_of a)) (sym (same_answer a p o s k v room) ∙ e);
      never_past = λ k v e. kept_never (view_of a) o s.keeps k.call (taken_rules a p o s k v e);
    }

pub always_reached : AlwaysReached
always_reached area out m v e keys w = stands_reached _ _ _ (run_stands area out m v e keys w)
