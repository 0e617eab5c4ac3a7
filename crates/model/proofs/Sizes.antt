-- The sizes of everything that a bench holds: each call keeps them. What down does is in SizesDown.
-- Assumes nothing.
use Rattle.std.specs.Prelude.{Option, Some, None}
use Prim.Native.Nat.{ℕ, ◌+◌, ◌%◌, ◌≤◌}
use native.Mathlib.Omega.{arith}
use mathlib.Core.Path.{◌≡◌, refl, ap}
use mathlib.Core.Bool.{Bool, true, false, ◌&&◌}
use mathlib.Core.List.{List, [], ◌∷◌, ◌++◌}
use lib.Dec.{eqb, ltb}
use lib.ListN.{length, drop, length-append, length-map}
use borrow.Author.Tests.{ltb-false}
use Rattle.octets.specs.Octets.{Octets, pick}
use Rattle.packets.specs.Packet.{carrying}
use Rattle.packets.specs.Segments.{Segment, more, last, segments, segment_packet}
use Rattle.packets.specs.Reassembly.{Run}
use Rattle.model.specs.Kinds.{Profile, Host, Event, Aired, Heard}
use Rattle.model.specs.Kinds.event.{Found, Poll, Listen, Failed, Sleeps, LinkLost, Releases, Endpoint}
use Rattle.model.specs.Kinds.aired.{Goes, Activates, Ends, Speaks}
use Rattle.model.specs.Kinds.answer.{Done, ClosesAll, Sized, Opens, Closes}
use Rattle.model.specs.Kinds.heard.{Nothing, Dropped, Answered, Activated, Deactivated, Credits}
use Rattle.state.specs.Conn.{place_of, terms_of}
use Rattle.state.specs.Runs.{data_limit, control_limit}
use Rattle.state.specs.Profile.{profile_in}
use Rattle.dh.specs.Host.{host_after, hear_of}
use Rattle.air.specs.Air.{event_of, air_message}
use Rattle.state.proofs.Chains.{on, or_left, or_right}
use Rattle.state.proofs.Credits.{carriable_few}
use Rattle.model.specs.Connection.{Connection, with_host, with_controller, sent, pushed, heard_data, credited, owed_on, carried_on, paid, noticed, spoken}
use Rattle.packets.specs.Headers.{data_header}
use Rattle.messages.specs.Packets.{notice_packets}
use Rattle.wires.proofs.Slots.{meaning_carrying}
use Rattle.wires.specs.Meaning.{Meaning, datum, control, junk, meaning}
use Rattle.model.specs.State.{State, at, with_conns, with_up, with_hearing, ControlRun, with_host_state}
use Rattle.model.specs.Effects.{fresh, power, command, send, push, down, consume, credit, air, reply, up, report, Effect, taken}
use Rattle.model.specs.Refusals.{first, no_conn, is_nil, full, is_held}
use Rattle.model.specs.Runs.{run_for, run_after}
use Rattle.ends.specs.Changes.{stays, opens, closes, change_heard}
use Rattle.model.specs.Changes.{at_host}
use Rattle.model.specs.calls.Push.{pushing}
use Rattle.model.specs.calls.Consume.{is_loop, echo, echoed, segment_in, joined_run, joined_end, consuming}
use Rattle.model.specs.calls.Credit.{owed_by}
use Rattle.model.specs.calls.Air.{aired_conns, airing}
use Rattle.model.specs.calls.Reply.{replying}
use Rattle.model.specs.calls.Up.{heard, coming, taking_up}
use Rattle.model.specs.Bench.{rules, act}
use Rattle.model.specs.Observer.{Ledger}
use Rattle.model.specs.Reachable.{Always, RunWithin, Sizes}
use Rattle.model.specs.invariant.Bench.{Fine, SoundIn, StoredIn}
use Rattle.model.proofs.Cases.{clash}
use Rattle.model.proofs.Needs.{need}
use Rattle.model.proofs.Link.{held_le, owed_le}
use Rattle.air.proofs.Taken.{Within, event_within, aired_steady}
use Rattle.model.proofs.Meanings.{meaning_data}
use Rattle.model.proofs.Messages.{notices_few}
use Rattle.model.proofs.Air.{Suits, aired_ok, aired_suits, kind_eight, notifies}
use Rattle.model.proofs.Trace.{reachable}
use Rattle.model.proofs.Always.{Stays, always}
use Rattle.model.proofs.Never.{heard_whole}
use Rattle.model.proofs.Said.{Due, Said, said_append, hear_due, air_said, credit_said, data_said, heard_opens}
use Rattle.model.proofs.SizesDown.{down_small}
use Rattle.model.proofs.Small.{HostSmall, ControllerSmall, ConnSmall, Small, cold_small, sent_octets, grown_within, at_small, change_controller, change_host, held_known, held_terms}

-- ---- send, push, consume, reply

-- one of the five changes, and packets are put up
put_small : (s : State) (c : ℕ) (g : Connection → Connection) (ps : List Octets) → no_conn c ≡ false → HostSmall s.profile c (g (s.conns c)).host
    → ControllerSmall (g (s.conns c)).controller → length s.up + length ps ≤ 16 → Said s.profile ps → Small s
    → Small (with_up (s.up ++ ps) (with_conns (at c g s.conns) s))
put_small s c g ps five h k room said m =
    record {
      downs = m.downs;
      ups = rw length-append room;
      said = said_append s.profile s.up ps m.said said;
      conns = at_small c g s.conns five h k m.conns;
      steady = m.steady;
      size_least = m.size_least;
      size_most = m.size_most;
      hearing = m.hearing;
      asking = m.asking;
    }

send_small : (s : State) (c : ℕ) (o : Octets) → first (rules (send c o) s) ≡ taken → Small s → Small (act (send c o) s).next
send_small s c o t m =
    let third = need 3 (rules (send c o) s) t in
    let short = ltb-false 1024 (length o) (or_right (no_conn c) (ltb 1024 (length o)) third) in
    record {
      downs = m.downs;
      ups = m.ups;
      said = m.said;
      conns =
          at_small c (λ k. with_host (sent o k.host) k) s.conns (or_left (no_conn c) (ltb 1024 (length o)) third)
          (record {
            hand = rw (sent_octets (s.conns c).host.payload o) short;
            reassembly = (m.conns c).host.reassembly;
            payload = (m.conns c).host.payload;
            grant = (m.conns c).host.grant;
          })
          (m.conns c).controller m.conns;
      steady = m.steady;
      size_least = m.size_least;
      size_most = m.size_most;
      hearing = m.hearing;
      asking = m.asking;
    }

push_small : (s : State) (c : ℕ) → first (rules (push c) s) ≡ taken → Small s → Small (act (push c) s).next
push_small s c t m = go (s.conns c).host.hand refl
  where
    go : (h : List Segment) → (s.conns c).host.hand ≡ h → Small (pushing c h s).next
    go [] e = m
    go (x ∷ h) e =
        record {
          downs = rw length-append (omega (arith, ltb-false 16 (length s.down + 1) (need 4 (rules (push c) s) t)));
          ups = m.ups;
          said = m.said;
          conns =
              at_small c (λ k. with_host (pushed h k.host) k) s.conns (need 3 (rules (push c) s) t)
              (record {
                hand = omega (arith, rw e at (m.conns c).host.hand);
                reassembly = (m.conns c).host.reassembly;
                payload = (m.conns c).host.payload;
                grant = (m.conns c).host.grant;
              })
              (m.conns c).controller m.conns;
          steady = m.steady;
          size_least = m.size_least;
          size_most = m.size_most;
          hearing = m.hearing;
          asking = m.asking;
        }

stored_said : (r : Profile) (c n : ℕ) (p : Octets) (q : Meaning) → meaning p ≡ q → StoredIn c q → Said r (carrying n p ∷ [])
stored_said r c n p (datum b m x) means h = data_said r (carrying n p) b (n % 4) x (meaning_carrying n p b m x means)
stored_said r c n p (control mt gid oid x) means h = absurd h
stored_said r c n p junk means h = absurd h

joined_within : (r : Run) (xs : List Segment) → RunWithin data_limit r → RunWithin data_limit (joined_run r xs)
joined_within r [] h = h
joined_within r (x ∷ xs) h = grown_within data_limit r x

consume_small : (s : State) (aim : ℕ) (l : ℕ → Ledger) (c : ℕ) → first (rules (consume c) s) ≡ taken → Fine s aim l → Small s → Small (act (consume c) s).next
unfolding Said
consume_small s aim l c t f m = go (s.conns c).controller.store refl
  where
    room : (n : ℕ) (p : Octets) → length s.up + length (echo c n p) ≤ 16
    room n p = with_loop (is_loop c) (need 4 (rules (consume c) s) t)
      where
        with_loop : (b : Bool) → (b && full 1 s.up) ≡ false → length s.up + length (pick b (carrying n p ∷ []) []) ≤ 16
        with_loop true e = omega (arith, ltb-false 16 (length s.up + 1) e)
        with_loop false e = omega (arith, m.ups)

    go : (st : List Octets) → (s.conns c).controller.store ≡ st → Small (consuming c st s).next
    go [] e = m
    go (p ∷ st) e =
        let n = carried_on (joined_end (segment_in (meaning p)) st (s.conns c).controller) in
        put_small s c (λ k. with_controller (echoed (is_loop c) (joined_end (segment_in (meaning p)) st k.controller)) k) (echo c n p)
        (need 3 (rules (consume c) s) t) (m.conns c).host
        (record {
          stored = omega (arith, rw e at (m.conns c).controller.stored);
          speech = (m.conns c).controller.speech;
          reassembly = joined_within (s.conns c).controller.run (segment_in (meaning p)) (m.conns c).controller.reassembly;
        })
        (room n p)
        (on (Said s.profile) (is_loop c) (λ e'. stored_said s.profile c n p (meaning p) refl (rw e at (f.standing.stores c)).0) (λ e'. tt))
        m

reply_small : (s : State) → first (rules reply s) ≡ taken → Small s → Small (act reply s).next
unfolding place_of
reply_small s t m = go (s.conns 0).controller.speech refl
  where
    go : (h : List Segment) → (s.conns 0).controller.speech ≡ h → Small (replying h s).next
    go [] e = m
    go (x ∷ h) e =
        let n = carried_on (s.conns 0).controller in
        put_small s 0 (λ k. with_controller (paid (spoken h k.controller)) k) (segment_packet (data_header 0 n) x ∷ []) refl (m.conns 0).host
        (record {
          stored = (m.conns 0).controller.stored;
          speech = omega (arith, rw e at (m.conns 0).controller.speech);
          reassembly = (m.conns 0).controller.reassembly;
        })
        (ltb-false 16 (length s.up + 1) (need 4 (rules reply s) t))
        (data_said s.profile (segment_packet (data_header 0 n) x) 0 n x (meaning_data 0 n x (omega arith) (omega (arith, carriable_few (owed_on (s.conns 0).controller)))))
        m

-- ---- command, credit

command_small : (s : State) (gid oid : ℕ) (o : Octets) → first (rules (command gid oid o) s) ≡ taken → Small s → Small (act (command gid oid o) s).next
command_small s gid oid o t m =
    record {
      downs = simp (length-append, length-map) (ltb-false 16 (length s.down + length (segments s.host.size o)) (need 4 (rules (command gid oid o) s) t));
      ups = m.ups;
      said = m.said;
      conns = m.conns;
      steady = m.steady;
      size_least = m.size_least;
      size_most = m.size_most;
      hearing = m.hearing;
      asking = m.asking;
    }

credit_small : (s : State) → first (rules credit s) ≡ taken → Small s → Small (act credit s).next
credit_small s t m =
    record {
      downs = m.downs;
      ups = rw length-append (ltb-false 16 (length s.up + 1) (need 4 (rules credit s) t));
      said = said_append s.profile s.up _ m.said (credit_said s.profile (owed_by s));
      conns =
          λ d.
          record {
            host = (m.conns d).host;
            controller = record { stored = (m.conns d).controller.stored; speech = (m.conns d).controller.speech; reassembly = (m.conns d).controller.reassembly };
            other = λ e. ap (λ (k : Connection). with_controller (noticed k.controller) k) ((m.conns d).other e);
          };
      steady = m.steady;
      size_least = m.size_least;
      size_most = m.size_most;
      hearing = m.hearing;
      asking = m.asking;
    }

-- ---- air

-- a notification of the air is one packet, where there is one
air_few : (p : Profile) (e : Option Event) (o : Octets) (n : ℕ) → n ≤ 16 → (notifies e && ltb 16 (n + 1)) ≡ false → n + length (notice_packets (air_message p e o)) ≤ 16
unfolding air_message
air_few p None o n h e = omega arith
air_few p (Some (Found a type)) o n h e = omega (arith, ltb-false 16 (n + 1) e, notices_few (air_message p (Some (Found a type)) o))
air_few p (Some (Poll a)) o n h e = omega (arith, ltb-false 16 (n + 1) e, notices_few (air_message p (Some (Poll a)) o))
air_few p (Some (Listen a)) o n h e = omega (arith, ltb-false 16 (n + 1) e, notices_few (air_message p (Some (Listen a)) o))
air_few p (Some Failed) o n h e = omega (arith, ltb-false 16 (n + 1) e, notices_few (air_message p (Some Failed) o))
air_few p (Some Sleeps) o n h e = omega (arith, ltb-false 16 (n + 1) e, notices_few (air_message p (Some Sleeps) o))
air_few p (Some LinkLost) o n h e = omega (arith, ltb-false 16 (n + 1) e, notices_few (air_message p (Some LinkLost) o))
air_few p (Some Releases) o n h e = omega (arith, ltb-false 16 (n + 1) e, notices_few (air_message p (Some Releases) o))
air_few p (Some Endpoint) o n h e = omega arith

-- the connections after it
air_conns : (s : State) (o : Octets) (e : Option Event) (a : Option Aired) → Within o e → Suits e a → Small s
    → (d : ℕ) → ConnSmall s.profile d (aired_conns (terms_of s.profile 0) a o s.conns d)
unfolding place_of
air_conns s o e None w t m d = m.conns d
air_conns s o e (Some (Goes rf ls)) w t m d = m.conns d
air_conns s o e (Some (Activates rf ls)) w t m d =
    change_controller d (pick (eqb 0 d) (opens (terms_of s.profile 0)) stays) (s.conns d) (aired_ok s.profile (Some (Activates rf ls)) d) (m.conns d)
air_conns s o e (Some (Ends rf)) w t m d =
    change_controller d (pick (eqb 0 d) closes stays) (s.conns d) (aired_ok s.profile (Some (Ends rf)) d) (m.conns d)
air_conns s o e (Some Speaks) w t m d =
    at_small 0 (λ k. with_controller (spoken (segments 255 (drop 1 o)) k.controller) k) s.conns refl (m.conns 0).host
    (record {
      stored = (m.conns 0).controller.stored;
      speech = rw (sent_octets 255 (drop 1 o)) (kind_eight o e w t).1;
      reassembly = (m.conns 0).controller.reassembly;
    })
    m.conns d

air_small : (s : State) (aim : ℕ) (l : ℕ → Ledger) (o : Octets) → first (rules (air o) s) ≡ taken → Fine s aim l → Small s → Small (act (air o) s).next
air_small s aim l o t f m =
    record {
      downs = m.downs;
      ups = rw length-append (air_few s.profile (event_of o) o (length s.up) m.ups (need 4 (rules (air o) s) t));
      said = said_append s.profile s.up _ m.said (air_said s.profile o (event_of o));
      conns =
          air_conns s o (event_of o) (airing s o) (event_within o) (aired_suits s.controller.rf s.controller.pairs (event_of o)) m;
      steady = aired_steady s.controller (airing s o) m.steady;
      size_least = m.size_least;
      size_most = m.size_most;
      hearing = m.hearing;
      asking = m.asking;
    }

-- ---- up

after_size : (p : Profile) (h : Host) (x : Heard) → Due p x → (32 ≤ h.size) × (h.size ≤ 255) → (32 ≤ (host_after h x).size) × ((host_after h x).size ≤ 255)
unfolding host_after
after_size p h Nothing b e = e
after_size p h Dropped b e = e
after_size p h (Answered Done) b e = e
after_size p h (Answered ClosesAll) b e = omega arith
after_size p h (Answered (Sized n)) b e = b
after_size p h (Answered (Opens c t)) b e = e
after_size p h (Answered (Closes c)) b e = e
after_size p h (Activated t) b e = e
after_size p h Deactivated b e = e
after_size p h Credits b e = e

module _ (s : State) (aim : ℕ) (l : ℕ → Ledger) (p : Octets) (w : List Octets) (f : Fine (with_up (p ∷ w) s) aim l) (m : Small (with_up (p ∷ w) s)) where
  -- the packet is taken off the wire, where the host has the connections g, the state h and the run r
  taken_small : (g : ℕ → Connection) (h : Host) (r : ControlRun) → ((d : ℕ) → ConnSmall s.profile d (g d)) → (32 ≤ h.size) × (h.size ≤ 255)
      → RunWithin control_limit r.run → Small (with_host_state h (with_conns g (with_hearing r (with_up w s))))
  unfolding Said
  taken_small g h r conns size within =
      record {
        downs = m.downs;
        ups = omega (arith, m.ups);
        said = m.said.1;
        conns = conns;
        steady = m.steady;
        size_least = size.0;
        size_most = size.1;
        hearing = within;
        asking = m.asking;
      }

  same_size : (32 ≤ s.host.size) × (s.host.size ≤ 255)
  same_size = (m.size_least, m.size_most)

  gone : Small (with_up w s)
  gone = taken_small s.conns s.host s.hearing m.conns same_size m.hearing

  data_small : (c n : ℕ) (x : Segment) → is_held s c ≡ true → Small (with_conns (at c (λ k. with_host (heard_data x (credited n k.host)) k) s.conns) (with_up w s))
  data_small c n x o =
      taken_small (at c (λ k. with_host (heard_data x (credited n k.host)) k) s.conns) s.host s.hearing
      (at_small c (λ k. with_host (heard_data x (credited n k.host)) k) s.conns (held_known c (s.conns c) (m.conns c) o)
      (record { hand = (m.conns c).host.hand; reassembly = grown_within data_limit (s.conns c).host.run x; payload = (m.conns c).host.payload; grant = (m.conns c).host.grant })
      (m.conns c).controller m.conns)
      same_size m.hearing

  heard_small : (mt gid oid : ℕ) (o : Octets) → meaning p ≡ control mt gid oid (last o) → length o ≤ control_limit
      → Small (heard mt gid oid (last o) (with_up w s)).next
  unfolding Said
  heard_small mt gid oid o means short =
      let h = hear_of s.host.pending mt gid oid o in
      let due : Due s.profile h = hear_due s.profile s.host.pending mt gid oid o (rw means at m.said.0) in
      rw (heard_whole s aim l p w f mt gid oid o short)
      (taken_small (λ d. with_host (at_host (change_heard h o d) (s.conns d).host) (s.conns d)) (host_after s.host h) (run_after s.hearing mt gid oid (last o))
      (λ d. change_host d (change_heard h o d) (s.conns d) (heard_opens s.profile h o d due) (m.conns d))
      (after_size s.profile s.host h due same_size) (grown_within control_limit (run_for s.hearing mt gid oid) (last o)))

  coming_small : (q : Meaning) → meaning p ≡ q → SoundIn q → Small (coming q (with_up w s)).next
  coming_small (datum c n x) means k = on (λ (e : Effect). Small e.next) (is_held s c) (λ o. data_small c n x o) (λ o. gone)
  coming_small (control mt gid oid (more b)) means k = absurd k
  coming_small (control mt gid oid (last o)) means k =
      on (λ (e : Effect). Small e.next) (eqb mt 1) (λ e. gone) (λ e. heard_small mt gid oid o means k.1)
  coming_small junk means k = gone

up_small : (s : State) (aim : ℕ) (l : ℕ → Ledger) → first (rules up s) ≡ taken → Fine s aim l → Small s → Small (act up s).next
up_small s aim l t f m = go s.up (need 8 (rules up s) t) f m
  where
    go : (w : List Octets) → is_nil w ≡ false → Fine (with_up w s) aim l → Small (with_up w s) → Small (taking_up w s).next
    go [] e f m = clash refl e
    go (p ∷ w) e f m = coming_small s aim l p w f m (meaning p) refl f.sound.0

-- ---- every call

pub act_small : Stays Small
act_small (fresh o) s aim l t f m = cold_small (profile_in o)
act_small power s aim l t f m = cold_small s.profile
act_small (command gid oid o) s aim l t f m = command_small s gid oid o t m
act_small (send c o) s aim l t f m = send_small s c o t m
act_small (push c) s aim l t f m = push_small s c t m
act_small down s aim l t f m = down_small s aim l t f m
act_small (consume c) s aim l t f m = consume_small s aim l c t f m
act_small credit s aim l t f m = credit_small s t m
act_small (air o) s aim l t f m = air_small s aim l o t f m
act_small reply s aim l t f m = reply_small s t m
act_small up s aim l t f m = up_small s aim l t f m
act_small (report c) s aim l t f m = m

sizes : (s : State) (aim : ℕ) (l : ℕ → Ledger) → Fine s aim l → Small s → Sizes s
sizes s aim l f m =
    record {
      profile = f.limits;
      down = m.downs;
      up = m.ups;
      host =
          λ d.
          record {
            hand = (m.conns d).host.hand;
            reassembly = (m.conns d).host.reassembly;
            credits = held_le (f.good d).numbers;
            terms = held_terms s.profile d (s.conns d).host f.limits (m.conns d).host;
          };
      controller =
          λ d.
          record {
            stored = (m.conns d).controller.stored;
            speech = (m.conns d).controller.speech;
            reassembly = (m.conns d).controller.reassembly;
            credits = owed_le (f.good d).numbers;
            terms = λ o. rw (f.standing.granted d o) (f.limits.terms d).credits_ok_law;
          };
      others = λ d. (m.conns d).other;
      command_least = m.size_least;
      command_most = m.size_most;
      hearing = m.hearing;
      asking = m.asking;
      given = m.steady.given;
      pairs = m.steady.pairs;
      places = m.steady.places;
    }

pub sizes_reachable : Always Sizes
sizes_reachable profile ok calls =
    sizes _ _ _ (reachable profile ok calls).fine (always Small act_small (λ p l. cold_small p) profile ok calls)
