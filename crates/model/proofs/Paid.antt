-- After every list of calls a loopback owes nothing: each call that is taken keeps it so.
-- Assumes nothing.
use Rattle.std.specs.Prelude.{Option, Some, None}
use Prim.Native.Nat.{ℕ, ◌-◌, ◌%◌, ◌+◌}
use mathlib.Core.Path.{◌≡◌, refl, ◌∙◌}
use mathlib.Core.Bool.{Bool, true, false, ◌&&◌}
use mathlib.Core.List.{List, [], ◌∷◌}
use lib.Dec.{eqb}
use lib.ListN.{drop}
use borrow.Author.Tests.{not-false}
use Rattle.octets.specs.Octets.{Octets, pick}
use Rattle.packets.specs.Segments.{Segment, segments}
use Rattle.state.specs.Conn.{terms_of, flows, carriable}
use Rattle.state.proofs.Chains.{on}
use Rattle.model.specs.Kinds.{Profile, Aired}
use Rattle.model.specs.Kinds.aired.{Goes, Activates, Ends, Speaks}
use Rattle.nfcc.specs.Controller.{judge_of}
use Rattle.ends.specs.Changes.{Change, stays, opens, closes, gives, change_by, change_aired}
use Rattle.model.specs.Connection.{ControllerEnd, Connection, with_host, with_controller, sent, pushed, heard_data, credited, stored, paid, spoken}
use Rattle.wires.specs.Meaning.{Meaning, datum, control, junk, meaning}
use Rattle.model.specs.State.{State, cold, is_open, at, with_down, with_up, with_hearing, with_asking}
use Rattle.model.specs.Effects.{Effect, fresh, power, command, send, push, down, consume, credit, air, reply, up, report, taken}
use Rattle.model.specs.Refusals.{first, is_held}
use Rattle.model.specs.Changes.{at_controller}
use Rattle.model.specs.Runs.{run_after, whole_by, flag_by}
use Rattle.model.specs.calls.Push.{pushing}
use Rattle.model.specs.calls.Down.{answering, arriving, taking_down}
use Rattle.model.specs.calls.Consume.{is_loop, echoed, segment_in, joined_end, consuming}
use Rattle.model.specs.calls.Air.{airing, aired_conns}
use Rattle.model.specs.calls.Reply.{replying}
use Rattle.model.specs.calls.Up.{hearing, coming, taking_up}
use Rattle.model.specs.Bench.{rules, act}
use Rattle.model.specs.Reachable.{Always, LoopbacksPaid}
use Rattle.model.proofs.Cases.{clash, each}
use Rattle.model.proofs.Needs.{need}
use Rattle.model.proofs.Fine.{at_keeps}
use Rattle.model.proofs.Always.{Stays, always}

abbrev PaidIn : (ℕ → Connection) → Type 0
PaidIn g = (d : ℕ) → is_loop d ≡ true → (g d).controller.owed ≡ 0

-- ---- connections whose controllers owe what they owed

-- one of them changes
same_paid : (c : ℕ) (f : Connection → Connection) (g : ℕ → Connection) → ((k : Connection) → (f k).controller.owed ≡ k.controller.owed) → PaidIn g → PaidIn (at c f g)
same_paid c f g e h d l = at_keeps c f g (λ k. k.controller.owed) e d ∙ h d l

-- connection 0 changes
zero_paid : (f : Connection → Connection) (g : ℕ → Connection) → PaidIn g → PaidIn (at 0 f g)
zero_paid f g h = each 0 (λ d b. is_loop d ≡ true → (pick b (f (g d)) (g d)).controller.owed ≡ 0) (λ l. clash l refl) h

change_paid : (x : Change) (k : ControllerEnd) → k.owed ≡ 0 → (at_controller x k).owed ≡ 0
change_paid stays k e = e
change_paid (opens t) k e = refl
change_paid closes k e = refl
change_paid (gives n) k e = e

-- ---- consume: the credit that is owed goes up at once

consumed_owed : (b : Bool) (xs : List Segment) (rest : List Octets) (k : ControllerEnd) → b ≡ true → k.opened ≡ true → k.owed ≡ 0 → (echoed b (joined_end xs rest k)).owed ≡ 0
unfolding carriable
consumed_owed b xs rest k loop opened owed = rw (loop, opened, owed) (go (flows k.grant))
  where
    go : (f : Bool) → pick f ((0 + 1) % 256) 0 - carriable (pick (true && f) (pick f ((0 + 1) % 256) 0) 0) ≡ 0
    go true = refl
    go false = refl

consume_paid : (s : State) (c : ℕ) → first (rules (consume c) s) ≡ taken → LoopbacksPaid s → LoopbacksPaid (act (consume c) s).next
consume_paid s c t h = go (s.conns c).controller.store
  where
    go : (st : List Octets) → LoopbacksPaid (consuming c st s).next
    go [] = h
    go (p ∷ st) =
        each c (λ d b. is_loop d ≡ true → (pick b (with_controller (echoed (is_loop c) (joined_end (segment_in (meaning p)) st (s.conns d).controller)) (s.conns d)) (s.conns d)).controller.owed ≡ 0)
        (λ l. consumed_owed (is_loop c) (segment_in (meaning p)) st (s.conns c).controller l (not-false _ (need 6 (rules (consume c) s) t)) (h c l)) h

-- ---- the others

push_paid : (s : State) (c : ℕ) (ss : List Segment) → LoopbacksPaid s → LoopbacksPaid (pushing c ss s).next
push_paid s c [] h = h
push_paid s c (x ∷ ss) h = same_paid c (λ k. with_host (pushed ss k.host) k) s.conns (λ k. refl) h

answering_paid : (s : State) (gid oid : ℕ) (ms : List Octets) (b : Bool) → LoopbacksPaid s → LoopbacksPaid (answering gid oid ms b s).next
answering_paid s gid oid [] b h = h
answering_paid s gid oid (m ∷ ms) b h = λ d l. change_paid (change_by (judge_of s.profile s.controller (is_open s) gid oid m) d) (s.conns d).controller (h d l)

arriving_paid : (s : State) (q : Meaning) (p : Octets) → LoopbacksPaid s → LoopbacksPaid (arriving q p s).next
arriving_paid s (datum c n x) p h =
    on (λ (e : Effect). LoopbacksPaid e.next) (is_open s c) (λ _. same_paid c (λ k. with_controller (stored p k.controller) k) s.conns (λ k. refl) h) (λ _. h)
arriving_paid s (control mt gid oid x) p h =
    on (λ (e : Effect). LoopbacksPaid e.next) (eqb mt 1)
    (λ _. answering_paid (with_asking (run_after s.asking 1 gid oid x) s) gid oid (whole_by s.asking 1 gid oid x) (flag_by s.asking 1 gid oid x) h) (λ _. h)
arriving_paid s junk p h = h

down_paid : (s : State) (w : List Octets) → LoopbacksPaid s → LoopbacksPaid (taking_down w s).next
down_paid s [] h = h
down_paid s (p ∷ w) h = arriving_paid (with_down w s) (meaning p) p h

credit_paid : (s : State) → LoopbacksPaid s → LoopbacksPaid (act credit s).next
credit_paid s h d l = on (λ (n : ℕ). n ≡ 0) ((s.conns d).controller.opened && flows (s.conns d).controller.grant) (λ _. refl) (λ _. h d l)

air_paid : (s : State) (a : Option Aired) (m : Octets) → LoopbacksPaid s → PaidIn (aired_conns (terms_of s.profile 0) a m s.conns)
air_paid s None m h = h
air_paid s (Some (Goes rf l)) m h = h
air_paid s (Some (Activates rf l)) m h = λ d o. change_paid (change_aired (terms_of s.profile 0) (Some (Activates rf l)) d) (s.conns d).controller (h d o)
air_paid s (Some (Ends rf)) m h = λ d o. change_paid (change_aired (terms_of s.profile 0) (Some (Ends rf)) d) (s.conns d).controller (h d o)
air_paid s (Some Speaks) m h = zero_paid (λ k. with_controller (spoken (segments 255 (drop 1 m)) k.controller) k) s.conns h

reply_paid : (s : State) (ss : List Segment) → LoopbacksPaid s → LoopbacksPaid (replying ss s).next
reply_paid s [] h = h
reply_paid s (x ∷ ss) h = zero_paid (λ k. with_controller (paid (spoken ss k.controller)) k) s.conns h

hearing_paid : (s : State) (mt gid oid : ℕ) (ms : List Octets) (b : Bool) → LoopbacksPaid s → LoopbacksPaid (hearing mt gid oid ms b s).next
hearing_paid s mt gid oid [] b h = h
hearing_paid s mt gid oid (m ∷ ms) b h = h

coming_paid : (s : State) (q : Meaning) → LoopbacksPaid s → LoopbacksPaid (coming q s).next
coming_paid s (datum c n x) h =
    on (λ (e : Effect). LoopbacksPaid e.next) (is_held s c) (λ _. same_paid c (λ k. with_host (heard_data x (credited n k.host)) k) s.conns (λ k. refl) h) (λ _. h)
coming_paid s (control mt gid oid x) h =
    on (λ (e : Effect). LoopbacksPaid e.next) (eqb mt 1) (λ _. h)
    (λ _. hearing_paid (with_hearing (run_after s.hearing mt gid oid x) s) mt gid oid (whole_by s.hearing mt gid oid x) (flag_by s.hearing mt gid oid x) h)
coming_paid s junk h = h

up_paid : (s : State) (w : List Octets) → LoopbacksPaid s → LoopbacksPaid (taking_up w s).next
up_paid s [] h = h
up_paid s (p ∷ w) h = coming_paid (with_up w s) (meaning p) h

-- ---- every call

pub act_paid : Stays LoopbacksPaid
act_paid (fresh m) s aim l t f h = λ d o. refl
act_paid power s aim l t f h = λ d o. refl
act_paid (command gid oid m) s aim l t f h = h
act_paid (send c m) s aim l t f h = same_paid c (λ k. with_host (sent m k.host) k) s.conns (λ k. refl) h
act_paid (push c) s aim l t f h = push_paid s c (s.conns c).host.hand h
act_paid down s aim l t f h = down_paid s s.down h
act_paid (consume c) s aim l t f h = consume_paid s c t h
act_paid credit s aim l t f h = credit_paid s h
act_paid (air m) s aim l t f h = air_paid s (airing s m) m h
act_paid reply s aim l t f h = reply_paid s (s.conns 0).controller.speech h
act_paid up s aim l t f h = up_paid s s.up h
act_paid (report c) s aim l t f h = h

pub cold_paid : (p : Profile) → LoopbacksPaid (cold p)
cold_paid p d o = refl

pub loopbacks_paid : Always LoopbacksPaid
loopbacks_paid = always LoopbacksPaid act_paid (λ p l. cold_paid p)
