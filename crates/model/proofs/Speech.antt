-- The endpoint's segments that are still to go are those counted from the calls: each call keeps it so.
-- Assumes nothing.
use Rattle.std.specs.Prelude.{Option, Some, None}
use Prim.Native.Nat.{ℕ}
use native.Mathlib.Omega.{arith}
use mathlib.Core.Path.{◌≡◌, refl, sym, ap, ◌∙◌, subst}
use mathlib.Core.Bool.{Bool, true, false}
use mathlib.Core.List.{List, [], ◌∷◌}
use lib.Dec.{eqb}
use lib.ListN.{length, get_or}
use borrow.Author.Tests.{eqb-true}
use Rattle.std.specs.Prelude.{Ok, Err}
use Rattle.octets.specs.Octets.{Octets, pick}
use Rattle.packets.specs.Segments.{Segment}
use Rattle.state.specs.Judgement.{Judgement}
use Rattle.state.specs.Conn.{terms_of}
use Rattle.state.proofs.Chains.{on}
use Rattle.nfcc.specs.Controller.{judge_of}
use Rattle.nfcc.proofs.Verdicts.{Legal, judge_legal}
use Rattle.air.specs.Air.{event_of, is_refused}
use Rattle.air.proofs.Taken.{event_within, AirLegal, aired_legal}
use Rattle.ends.specs.Changes.{Change, stays, opens, closes, gives, change_by}
use Rattle.wires.specs.Meaning.{Meaning, datum, control, junk, meaning}
use Rattle.model.specs.Kinds.{Rf, Aired}
use Rattle.model.specs.Kinds.verdict as verdict
use Rattle.model.specs.Kinds.aired.{Goes, Activates, Ends, Speaks}
use Rattle.model.specs.Connection.{ControllerEnd, Connection, with_host, with_controller, sent, pushed, heard_data, credited, stored}
use Rattle.model.specs.State.{State, is_open, at, with_down, with_up, with_asking, with_hearing}
use Rattle.model.specs.Effects.{Call, fresh, power, command, send, push, down, consume, credit, air, reply, up, report, Effect, Result, taken, refused}
use Rattle.model.specs.Refusals.{first, is_held}
use Rattle.model.specs.Runs.{run_after, whole_by, flag_by}
use Rattle.model.specs.Changes.{at_controller}
use Rattle.model.specs.calls.Push.{pushing}
use Rattle.model.specs.calls.Down.{answering, arriving, taking_down}
use Rattle.model.specs.calls.Consume.{is_loop, echoed, segment_in, joined_end, consuming}
use Rattle.model.specs.calls.Air.{airing, airing_as}
use Rattle.model.specs.calls.Reply.{replying}
use Rattle.model.specs.calls.Up.{hearing, coming, taking_up}
use Rattle.model.specs.Bench.{rules, act, judged, step}
use Rattle.model.specs.Observer.{Account, Event, observe}
use Rattle.model.specs.Observer as observer
use Rattle.model.specs.Exact.{said_by, said_as, said}
use Rattle.model.specs.invariant.Bench.{Fine, Kept}
use Rattle.model.proofs.Cases.{clash}
use Rattle.model.proofs.Needs.{need}
use Rattle.model.proofs.Fine.{at_keeps}
use Rattle.model.proofs.Air.{Suits, aired_suits, is_bad, kind_other, kind_eight}
use Rattle.model.proofs.Trace.{step_keeps}

-- the count n is what the endpoint has to say
abbrev pub Counted : State → ℕ → Type 0
Counted s n = n ≡ length (s.conns 0).controller.speech

-- it is, where connection 0 is open
abbrev WhileOpen : State → ℕ → Type 0
WhileOpen s n = (s.conns 0).controller.opened ≡ true → Counted s n

-- ---- connection 0 opens or closes

-- what opens was closed
abbrev Anew : Change → ControllerEnd → Type 0
Anew stays k = Unit {0}
Anew (opens t) k = k.opened ≡ false
Anew closes k = Unit {0}
Anew (gives n) k = Unit {0}

changed : (x : Change) (k : ControllerEnd) (n : ℕ) → Anew x k → (k.opened ≡ false → k.speech ≡ []) → n ≡ length k.speech
    → (at_controller x k).opened ≡ true → n ≡ length (at_controller x k).speech
changed stays k n o q h e = h
changed (opens t) k n o q h e = h ∙ ap length (q o)
changed closes k n o q h e = clash e refl
changed (gives m) k n o q h e = h

verdict_anew : (rf : Rf) (s : State) (v : Judgement) → Legal rf (is_open s) v → Anew (change_by v 0) (s.conns 0).controller
verdict_anew rf s (Err status) g = tt
verdict_anew rf s (Ok (verdict.Resets type)) g = tt
verdict_anew rf s (Ok verdict.Initialises) g = tt
verdict_anew rf s (Ok (verdict.Opens c t)) g =
    on (λ (x : Change). Anew x (s.conns 0).controller) (eqb c 0) (λ e. subst (λ (d : ℕ). is_open s d ≡ false) (eqb-true c 0 e) g) (λ e. tt)
verdict_anew rf s (Ok (verdict.Closes c)) g = on (λ (x : Change). Anew x (s.conns 0).controller) (eqb c 0) (λ e. tt) (λ e. tt)
verdict_anew rf s (Ok (verdict.Turns next)) g = tt
verdict_anew rf s (Ok (verdict.Selects pair)) g = tt
verdict_anew rf s (Ok (verdict.Deactivates type next)) g = tt
verdict_anew rf s (Ok verdict.SetsConfig) g = tt
verdict_anew rf s (Ok verdict.GetsConfig) g = tt

-- ---- calls that leave it alone

-- what the endpoint has to say
abbrev speech_of : State → List Segment
speech_of s = (s.conns 0).controller.speech

-- one connection changes, and keeps it
same_at : (c : ℕ) (f : Connection → Connection) (g : ℕ → Connection) → ((k : Connection) → (f k).controller.speech ≡ k.controller.speech)
    → (at c f g 0).controller.speech ≡ (g 0).controller.speech
same_at c f g e = at_keeps c f g (λ k. k.controller.speech) e 0

push_speech : (c : ℕ) (ss : List Segment) (s : State) → speech_of (pushing c ss s).next ≡ speech_of s
push_speech c [] s = refl
push_speech c (x ∷ ss) s = same_at c (λ k. with_host (pushed ss k.host) k) s.conns (λ k. refl)

consume_speech : (c : ℕ) (w : List Octets) (s : State) → speech_of (consuming c w s).next ≡ speech_of s
consume_speech c [] s = refl
consume_speech c (p ∷ w) s = same_at c (λ k. with_controller (echoed (is_loop c) (joined_end (segment_in (meaning p)) w k.controller)) k) s.conns (λ k. refl)

-- what the host reads leaves the controller's end
coming_speech : (q : Meaning) (s : State) → speech_of (coming q s).next ≡ speech_of s
coming_speech (datum c n x) s =
    on (λ (e : Effect). speech_of e.next ≡ speech_of s) (is_held s c)
    (λ _. same_at c (λ k. with_host (heard_data x (credited n k.host)) k) s.conns (λ k. refl)) (λ _. refl)
coming_speech (control mt gid oid x) s =
    on (λ (e : Effect). speech_of e.next ≡ speech_of s) (eqb mt 1) (λ _. refl)
    (λ _. heard (whole_by s.hearing mt gid oid x) (flag_by s.hearing mt gid oid x))
  where
    heard : (ms : List Octets) (b : Bool) → speech_of (hearing mt gid oid ms b (with_hearing (run_after s.hearing mt gid oid x) s)).next ≡ speech_of s
    heard [] b = refl
    heard (m ∷ ms) b = refl
coming_speech junk s = refl

up_speech : (w : List Octets) (s : State) → speech_of (taking_up w s).next ≡ speech_of s
up_speech [] s = refl
up_speech (p ∷ w) s = coming_speech (meaning p) (with_up w s)

-- ---- down and reply

-- where connection 0 is closed, the endpoint has nothing to say
abbrev Shut : State → Type 0
Shut s = (s.conns 0).controller.opened ≡ false → speech_of s ≡ []

answering_counted : (s : State) (n : ℕ) → Shut s → Counted s n → (gid oid : ℕ) (ms : List Octets) (b : Bool) → WhileOpen (answering gid oid ms b s).next n
answering_counted s n shut h gid oid [] b = λ _. h
answering_counted s n shut h gid oid (m ∷ ms) b =
    let v : Judgement = judge_of s.profile s.controller (is_open s) gid oid m in
    changed (change_by v 0) (s.conns 0).controller n
    (verdict_anew s.controller.rf s v (judge_legal (is_open s) s.profile s.controller gid oid m)) shut h

arriving_counted : (s : State) (n : ℕ) → Shut s → Counted s n → (q : Meaning) (p : Octets) → WhileOpen (arriving q p s).next n
arriving_counted s n shut h (datum c i x) p =
    on (λ (e : Effect). WhileOpen e.next n) (is_open s c)
    (λ _ _. h ∙ sym (ap length (same_at c (λ k. with_controller (stored p k.controller) k) s.conns (λ k. refl)))) (λ _ _. h)
arriving_counted s n shut h (control mt gid oid x) p =
    on (λ (e : Effect). WhileOpen e.next n) (eqb mt 1)
    (λ _. answering_counted (with_asking (run_after s.asking 1 gid oid x) s) n shut h gid oid (whole_by s.asking 1 gid oid x) (flag_by s.asking 1 gid oid x))
    (λ _ _. h)
arriving_counted s n shut h junk p = λ _. h

down_counted : (s : State) (n : ℕ) → Shut s → Counted s n → (w : List Octets) → WhileOpen (taking_down w s).next n
down_counted s n shut h [] = λ _. h
down_counted s n shut h (p ∷ w) = arriving_counted (with_down w s) n shut h (meaning p) p

reply_counted : (s : State) (n : ℕ) → Counted s n → (ss : List Segment) → speech_of s ≡ ss → WhileOpen (replying ss s).next (said_by reply n)
reply_counted s n h [] e o = omega (arith, h, ap length e)
reply_counted s n h (x ∷ ss) e o = omega (arith, h, ap length e)

-- ---- an event of the air

module _ (s : State) (aim : ℕ) (l : ℕ → observer.Ledger) (f : Fine s aim l) (n : ℕ) (h : Counted s n) (m : Octets) (t : first (rules (air m) s) ≡ taken) where
  -- an event that is no message
  other : (x : Change) → eqb (get_or m 0 0) 8 ≡ false → Anew x (s.conns 0).controller
      → (at_controller x (s.conns 0).controller).opened ≡ true → said_by (air m) n ≡ length (at_controller x (s.conns 0).controller).speech
  other x e a o = rw e (changed x (s.conns 0).controller n a (f.good 0).pipes.speech h o)

  aired : (a : Option Aired) → is_bad (event_of m) ≡ false → is_refused a ≡ false → AirLegal s.controller.rf a → Suits (event_of m) a
      → WhileOpen (airing_as (event_of m) a m s).next (said_by (air m) n)
  aired None b r g u o = clash refl r
  aired (Some (Goes rf ls)) b r g u o = other stays (kind_other m (event_of m) (event_within m) b u) tt o
  aired (Some (Activates rf ls)) b r g u o =
      other (opens (terms_of s.profile 0)) (kind_other m (event_of m) (event_within m) b u.0) (sym f.standing.air ∙ g.0) o
  aired (Some (Ends rf)) b r g u o = clash o refl
  aired (Some Speaks) b r g u o = rw (kind_eight m (event_of m) (event_within m) u).0 refl

  air_counted : WhileOpen (act (air m) s).next (said_by (air m) n)
  air_counted =
      aired (airing s m) (need 3 (rules (air m) s) t) (need 11 (rules (air m) s) t)
      (aired_legal s.controller.rf s.controller.pairs (event_of m)) (aired_suits s.controller.rf s.controller.pairs (event_of m))

-- ---- every call

call_counted : (c : Call) (s : State) (aim : ℕ) (l : ℕ → observer.Ledger) (n : ℕ) → first (rules c s) ≡ taken → Fine s aim l → Counted s n
    → WhileOpen (act c s).next (said_by c n)
call_counted (fresh m) s aim l n t f h = λ o. clash o refl
call_counted power s aim l n t f h = λ o. clash o refl
call_counted (command gid oid m) s aim l n t f h = λ o. h
call_counted (send c m) s aim l n t f h = λ o. h ∙ sym (ap length (same_at c (λ k. with_host (sent m k.host) k) s.conns (λ k. refl)))
call_counted (push c) s aim l n t f h = λ o. h ∙ sym (ap length (push_speech c (s.conns c).host.hand s))
call_counted down s aim l n t f h = down_counted s n (f.good 0).pipes.speech h s.down
call_counted (consume c) s aim l n t f h = λ o. h ∙ sym (ap length (consume_speech c (s.conns c).controller.store s))
call_counted credit s aim l n t f h = λ o. h
call_counted (air m) s aim l n t f h = air_counted s aim l f n h m t
call_counted reply s aim l n t f h = reply_counted s n h (s.conns 0).controller.speech refl
call_counted up s aim l n t f h = λ o. h ∙ sym (ap length (up_speech s.up s))
call_counted (report c) s aim l n t f h = λ o. h

-- by the account: where it has connection 0 closed, nothing is left to say
by_account : (s : State) (o : Account) (n : ℕ) → Kept s o → WhileOpen s n → Counted s (pick (o.ledger 0).controller.opened n 0)
by_account s o n k h = rw (k.fine.good 0).numbers.opened (go (s.conns 0).controller.opened refl)
  where
    go : (b : Bool) → (s.conns 0).controller.opened ≡ b → Counted s (pick b n 0)
    go true e = h e
    go false e = sym (ap length ((k.fine.good 0).pipes.speech e))

pub step_counted : (c : Call) (s : State) (o : Account) (n : ℕ) → Kept s o → Counted s n → Counted (step c s).effect.next (said (observer.event_of c (step c s)) o n)
unfolding step
step_counted c s o n k h =
    by_account (step c s).effect.next (observe (observer.event_of c (step c s)) o) _ (step_keeps c s o k) counted
  where
    counted : WhileOpen (step c s).effect.next (said_as (step c s).answer c n)
    counted = go (first (rules c s)) refl
      where
        go : (r : Result) → first (rules c s) ≡ r → WhileOpen (judged r c s).effect.next (said_as (judged r c s).answer c n)
        go taken e = call_counted c s o.aim o.ledger n e k.fine h
        go (refused i) e = λ _. h

-- a call that is refused leaves it as it was
pub refused_counted : (e : Event) (i : ℕ) → e.answer ≡ refused i → (s : State) (o : Account) (n : ℕ) → Kept s o → Counted s n → Counted s (said e o n)
refused_counted e i r s o n k h = rw r (by_account s o n k (λ _. h))
