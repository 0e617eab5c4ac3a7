-- On any bench, whether calls made it or not: a call that number 13 would not have refused leaves credits within the grants.
-- Assumes nothing.
use Rattle.std.specs.Prelude.{Option, Some, None}
use Prim.Native.Nat.{ℕ, ◌+◌, ◌≤◌}
use native.Mathlib.Omega.{arith}
use mathlib.Core.Path.{◌≡◌, refl}
use mathlib.Core.Bool.{Bool, true, false, not, ◌&&◌}
use mathlib.Core.List.{List, [], ◌∷◌}
use lib.Dec.{eqb, ltb, leb}
use lib.ListN.{drop}
use borrow.Author.Tests.{leb-false, ltb-false}
use Rattle.octets.specs.Octets.{Octets, pick}
use Rattle.packets.specs.Segments.{Segment, segments}
use Rattle.model.specs.Kinds.{Aired, Heard}
use Rattle.model.specs.Kinds.aired.{Goes, Activates, Ends, Speaks}
use Rattle.state.specs.Conn.{place_of, terms_of, flows, credit_sum}
use Rattle.state.proofs.Chains.{on, or_left, or_right}
use Rattle.state.proofs.Places.{each_conn}
use Rattle.nfcc.specs.Controller.{judge_of}
use Rattle.dh.specs.Host.{hear_of}
use Rattle.ends.specs.Changes.{Change, stays, opens, closes, gives, change_by, change_aired, change_heard, credits_of}
use Rattle.wires.specs.Meaning.{Meaning, datum, control, junk, meaning}
use Rattle.model.specs.Connection.{HostEnd, ControllerEnd, Connection, with_host, with_controller, sent, pushed, heard_data, credited, stored, paid, spoken}
use Rattle.model.specs.State.{State, ControlRun, is_open, at, with_down, with_up, with_hearing, with_asking}
use Rattle.model.specs.Effects.{Call, fresh, power, command, send, push, down, consume, credit, air, reply, up, report, Result, Effect, flagged_as, taken, refused}
use Rattle.model.specs.Refusals.{first, no_conn, ids, is_held}
use Rattle.model.specs.Runs.{run_after, whole_by, flag_by}
use Rattle.model.specs.Changes.{at_controller, at_host}
use Rattle.model.specs.calls.Push.{pushing}
use Rattle.model.specs.calls.Down.{answering, arriving, taking_down}
use Rattle.model.specs.calls.Consume.{is_loop, echoed, segment_in, joined_end, consuming}
use Rattle.model.specs.calls.Air.{airing, aired_conns}
use Rattle.model.specs.calls.Reply.{replying}
use Rattle.model.specs.calls.Up.{hearing, heard, coming, taking_up}
use Rattle.model.specs.Bench.{rules, act, judged, step}
use Rattle.model.specs.Grants.{ConnWithin, WithinGrants, passing, above, any_of, above_in, too_many, first_too_many, past_grant}
use Rattle.model.proofs.Cases.{each}

abbrev GrantsIn : (ℕ → Connection) → Type 0
GrantsIn g = (d : ℕ) → no_conn d ≡ false → ConnWithin (g d)

-- one of them changes
at_within : (c : ℕ) (f : Connection → Connection) (g : ℕ → Connection) → (ConnWithin (g c) → ConnWithin (f (g c))) → GrantsIn g → GrantsIn (at c f g)
at_within c f g k h = each c (λ d b. no_conn d ≡ false → ConnWithin (pick b (f (g d)) (g d))) (λ e. k (h c e)) h

-- ---- what a change leaves

controller_within : (x : Change) (k : Connection) → ConnWithin k → ConnWithin (with_controller (at_controller x k.controller) k)
controller_within stays k w = record { held = w.held; owed = w.owed }
controller_within (opens t) k w = record { held = w.held; owed = omega arith }
controller_within closes k w = record { held = w.held; owed = omega arith }
controller_within (gives n) k w = record { held = w.held; owed = w.owed }

-- credits that do not pass the grant
credited_within : (n : ℕ) (h : HostEnd) → (h.opened && flows h.grant && ltb h.grant (h.held + n)) ≡ false → h.held ≤ h.grant → (credited n h).held ≤ h.grant
credited_within n h e low = go (h.opened && flows h.grant) e
  where
    go : (b : Bool) → (b && ltb h.grant (h.held + n)) ≡ false → pick b (credit_sum h.held n) h.held ≤ h.grant
    go true z = omega (arith, ltb-false h.grant (h.held + n) z)
    go false z = low

host_within : (x : Change) (k : Connection) → (k.host.opened && flows k.host.grant && ltb k.host.grant (k.host.held + credits_of x)) ≡ false
    → ConnWithin k → ConnWithin (with_host (at_host x k.host) k)
host_within stays k e w = record { held = w.held; owed = w.owed }
host_within (opens t) k e w = record { held = omega arith; owed = w.owed }
host_within closes k e w = record { held = omega arith; owed = w.owed }
host_within (gives n) k e w = record { held = credited_within n k.host e w.held; owed = w.owed }

-- ---- consume

-- what is owed with one more, less what goes up
consumed_within : (b : Bool) (xs : List Segment) (rest : List Octets) (k : ControllerEnd) → (flows k.grant && leb k.grant k.owed) ≡ false → k.owed ≤ k.grant
    → (echoed b (joined_end xs rest k)).owed ≤ k.grant
consumed_within b xs rest k e low =
    let one : (joined_end xs rest k).owed ≤ k.grant = go (flows k.grant) e in
    on (λ (n : ℕ). n ≤ k.grant) b (λ _. omega (arith, one)) (λ _. one)
  where
    go : (f : Bool) → (f && leb k.grant k.owed) ≡ false → pick f (credit_sum k.owed 1) k.owed ≤ k.grant
    go true z = omega (arith, leb-false k.grant k.owed z)
    go false z = low

consume_within : (s : State) (c : ℕ) (st : List Octets) → past_grant (consume c) s ≡ false → WithinGrants s → WithinGrants (consuming c st s).next
consume_within s c [] e h = h
consume_within s c (p ∷ st) e h =
    at_within c (λ k. with_controller (echoed (is_loop c) (joined_end (segment_in (meaning p)) st k.controller)) k) s.conns
    (λ w. record { held = w.held; owed = consumed_within (is_loop c) (segment_in (meaning p)) st (s.conns c).controller e w.owed }) h

-- ---- up

module _ (s : State) (h : WithinGrants s) where
  data_within : (c n : ℕ) (x : Segment) → passing s c n ≡ false → GrantsIn (at c (λ k. with_host (heard_data x (credited n k.host)) k) s.conns)
  data_within c n x e =
      at_within c (λ k. with_host (heard_data x (credited n k.host)) k) s.conns
      (λ w. record { held = credited_within n (s.conns c).host e w.held; owed = w.owed }) h

  -- none of the five is above its grant
  each_below : (x : Heard) (m : Octets) → any_of (above s x m) ids ≡ false → (d : ℕ) → no_conn d ≡ false → above s x m d ≡ false
  unfolding any_of
  each_below x m e d five =
      let t : ℕ → Bool = above s x m in
      let e2 = or_right (t 0) _ e in
      let e3 = or_right (t 2) _ e2 in
      let e4 = or_right (t 3) _ e3 in
      let e5 = or_right (t 4) _ e4 in
      each_conn (λ c. t c ≡ false) (or_left (t 0) _ e) (or_left (t 2) _ e2) (or_left (t 3) _ e3) (or_left (t 4) _ e4) (or_left (t 5) _ e5) d
      (leb-false 5 (place_of d) five)

  -- what is left on the wire, and in the host's run, makes no difference
  module _ (w : List Octets) where
    hearing_within : (r : ControlRun) (mt gid oid : ℕ) (ms : List Octets) (b : Bool) → above_in s mt gid oid ms ≡ false
        → WithinGrants (hearing mt gid oid ms b (with_hearing r (with_up w s))).next
    hearing_within r mt gid oid [] b e = h
    hearing_within r mt gid oid (m ∷ ms) b e =
        let x = hear_of s.host.pending mt gid oid m in
        λ d five. host_within (change_heard x m d) (s.conns d) (each_below x m e d five) (h d five)

    coming_within : (q : Meaning) → too_many s q ≡ false → WithinGrants (coming q (with_up w s)).next
    coming_within (datum c n x) e = on (λ (f : Effect). WithinGrants f.next) (is_held s c) (λ _. data_within c n x e) (λ _. h)
    coming_within (control mt gid oid x) e = go (eqb mt 1) e
      where
        go : (b : Bool) → (not b && above_in s mt gid oid (whole_by s.hearing mt gid oid x)) ≡ false
            → WithinGrants (pick b (flagged_as true (with_up w s)) (heard mt gid oid x (with_up w s))).next
        go true z = h
        go false z = hearing_within (run_after s.hearing mt gid oid x) mt gid oid (whole_by s.hearing mt gid oid x) (flag_by s.hearing mt gid oid x) z
    coming_within junk e = h

  up_within : (w : List Octets) → first_too_many s w ≡ false → WithinGrants (taking_up w s).next
  up_within [] e = h
  up_within (p ∷ w) e = coming_within w (meaning p) e

-- ---- the others bring no credits

push_within : (s : State) (c : ℕ) (ss : List Segment) → WithinGrants s → WithinGrants (pushing c ss s).next
push_within s c [] h = h
push_within s c (x ∷ ss) h =
    at_within c (λ k. with_host (pushed ss k.host) k) s.conns
    (λ w. record { held = on (λ (n : ℕ). n ≤ (s.conns c).host.grant) (flows (s.conns c).host.grant) (λ _. omega (arith, w.held)) (λ _. w.held); owed = w.owed }) h

answering_within : (s : State) (gid oid : ℕ) (ms : List Octets) (b : Bool) → WithinGrants s → WithinGrants (answering gid oid ms b s).next
answering_within s gid oid [] b h = h
answering_within s gid oid (m ∷ ms) b h =
    λ d five. controller_within (change_by (judge_of s.profile s.controller (is_open s) gid oid m) d) (s.conns d) (h d five)

arriving_within : (s : State) (q : Meaning) (p : Octets) → WithinGrants s → WithinGrants (arriving q p s).next
arriving_within s (datum c n x) p h =
    on (λ (e : Effect). WithinGrants e.next) (is_open s c)
    (λ _. at_within c (λ k. with_controller (stored p k.controller) k) s.conns (λ w. record { held = w.held; owed = w.owed }) h) (λ _. h)
arriving_within s (control mt gid oid x) p h =
    on (λ (e : Effect). WithinGrants e.next) (eqb mt 1)
    (λ _. answering_within (with_asking (run_after s.asking 1 gid oid x) s) gid oid (whole_by s.asking 1 gid oid x) (flag_by s.asking 1 gid oid x) h) (λ _. h)
arriving_within s junk p h = h

down_within : (s : State) (w : List Octets) → WithinGrants s → WithinGrants (taking_down w s).next
down_within s [] h = h
down_within s (p ∷ w) h = arriving_within (with_down w s) (meaning p) p h

credit_within : (s : State) → WithinGrants s → WithinGrants (act credit s).next
credit_within s h d five =
    let w = h d five in
    let k = (s.conns d).controller in
    record { held = w.held; owed = on (λ (n : ℕ). n ≤ k.grant) (k.opened && flows k.grant) (λ _. omega arith) (λ _. w.owed) }

air_within : (s : State) (a : Option Aired) (m : Octets) → WithinGrants s → GrantsIn (aired_conns (terms_of s.profile 0) a m s.conns)
air_within s None m h = h
air_within s (Some (Goes rf l)) m h = h
air_within s (Some (Activates rf l)) m h = λ d five. controller_within (change_aired (terms_of s.profile 0) (Some (Activates rf l)) d) (s.conns d) (h d five)
air_within s (Some (Ends rf)) m h = λ d five. controller_within (change_aired (terms_of s.profile 0) (Some (Ends rf)) d) (s.conns d) (h d five)
air_within s (Some Speaks) m h =
    at_within 0 (λ k. with_controller (spoken (segments 255 (drop 1 m)) k.controller) k) s.conns (λ w. record { held = w.held; owed = w.owed }) h

reply_within : (s : State) (ss : List Segment) → WithinGrants s → WithinGrants (replying ss s).next
reply_within s [] h = h
reply_within s (x ∷ ss) h =
    at_within 0 (λ k. with_controller (paid (spoken ss k.controller)) k) s.conns (λ w. record { held = w.held; owed = omega (arith, w.owed) }) h

-- ---- every call

act_within : (c : Call) (s : State) → past_grant c s ≡ false → WithinGrants s → WithinGrants (act c s).next
act_within (fresh m) s e h = λ d five. record { held = omega arith; owed = omega arith }
act_within power s e h = λ d five. record { held = omega arith; owed = omega arith }
act_within (command gid oid m) s e h = h
act_within (send c m) s e h = at_within c (λ k. with_host (sent m k.host) k) s.conns (λ w. record { held = w.held; owed = w.owed }) h
act_within (push c) s e h = push_within s c (s.conns c).host.hand h
act_within down s e h = down_within s s.down h
act_within (consume c) s e h = consume_within s c (s.conns c).controller.store e h
act_within credit s e h = credit_within s h
act_within (air m) s e h = air_within s (airing s m) m h
act_within reply s e h = reply_within s (s.conns 0).controller.speech h
act_within up s e h = up_within s h s.up e
act_within (report c) s e h = h

-- one that is refused changes nothing
pub step_within : (c : Call) (s : State) → (first (rules c s) ≡ taken → past_grant c s ≡ false) → WithinGrants s → WithinGrants (step c s).effect.next
unfolding step
step_within c s e h = go (first (rules c s)) refl
  where
    go : (r : Result) → first (rules c s) ≡ r → WithinGrants (judged r c s).effect.next
    go taken t = act_within c s (e t) h
    go (refused n) t = h
