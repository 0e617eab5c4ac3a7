-- Every packet on a wire is well formed: each call keeps it so.
-- Assumes nothing.
use Rattle.std.specs.Prelude.{Option, Some, None}
use Prim.Native.Nat.{ℕ, ◌<◌}
use native.Mathlib.Omega.{arith}
use mathlib.Core.Path.{◌≡◌, refl}
use mathlib.Core.Bool.{Bool, false, ◌||◌}
use mathlib.Core.List.{List, [], ◌∷◌}
use lib.Dec.{eqb, ltb}
use lib.ListN.{length, drop}
use borrow.Author.Tests.{ltb-false, not-false}
use Rattle.octets.specs.Octets.{Octets, pick}
use Rattle.packets.specs.Packet.{read_of, carrying}
use Rattle.packets.specs.Reserved.{rfu_by}
use Rattle.packets.specs.Segments.{Segment, segments, segment_packet, packets_of}
use Rattle.packets.specs.Reassembly.{Fit}
use Rattle.state.specs.Judgement.{Judgement}
use Rattle.state.specs.Runs.{control_limit}
use Rattle.model.specs.Kinds.{Profile, Aired}
use Rattle.model.specs.Kinds.way as way
use Rattle.model.specs.Kinds.aired.{Goes, Activates, Ends, Speaks}
use Rattle.state.specs.Conn.{place_of, terms_of}
use Rattle.state.specs.Profile.{profile_in, ProfileWithin}
use Rattle.nfcc.specs.Controller.{judge_of}
use Rattle.dh.specs.Host.{hear_of}
use Rattle.air.specs.Air.{event_of}
use Rattle.state.proofs.Chains.{on, or_left, or_right}
use Rattle.state.proofs.Credits.{carriable_few}
use Rattle.model.specs.Connection.{Connection, with_host, with_controller, sent, pushed, heard_data, credited, stored, owed_on, carried_on, paid, spoken}
use Rattle.packets.specs.Headers.{data_header, control_header}
use Rattle.wires.proofs.Slots.{meaning_carrying}
use Rattle.wires.specs.Meaning.{Meaning, datum, control, junk, meaning}
use Rattle.model.specs.State.{State, cold, is_open, at, with_conns, with_down, with_up, with_asking, with_hearing}
use Rattle.model.specs.Effects.{Call, fresh, power, command, send, push, down, consume, credit, air, reply, up, report, Effect, taken}
use Rattle.model.specs.Refusals.{first, no_conn, is_nil, is_held}
use Rattle.model.specs.Runs.{run_for, run_after, whole_by}
use Rattle.ends.specs.Changes.{change_by, change_aired, change_heard}
use Rattle.model.specs.calls.Push.{pushing}
use Rattle.model.specs.calls.Down.{answers, deciding, answering, arriving, taking_down}
use Rattle.model.specs.calls.Consume.{is_loop, echo, echoed, segment_in, joined_end, consuming}
use Rattle.model.specs.calls.Air.{aired_conns, airing}
use Rattle.model.specs.calls.Reply.{replying}
use Rattle.model.specs.calls.Up.{hearing, coming, taking_up}
use Rattle.model.specs.Bench.{rules, act}
use Rattle.model.specs.Observer.{Ledger}
use Rattle.model.specs.Reachable.{Always, WellFormed, GoesDown, GoesUp, Each, Wires}
use Rattle.model.specs.invariant.Commands.{Aims}
use Rattle.model.specs.invariant.Bench.{Fine, StoredIn}
use Rattle.model.proofs.Cases.{clash, each, each_append, each_map}
use Rattle.model.proofs.Needs.{need}
use Rattle.air.proofs.Taken.{event_within}
use Rattle.model.proofs.Order.{way_low, way_small}
use Rattle.model.proofs.Always.{Stays, always}
use Rattle.model.proofs.Messages.{Answerable, judge_answerable}
use Rattle.model.proofs.Small.{Small, finished_fits, cold_small, held_terms}
use Rattle.model.proofs.Sizes.{act_small}
use Rattle.model.proofs.Shaped.{Formed, formed_well, formed_clear_up, formed_clear_down, DownOk, UpOk, Short, short_segments, data_down_law, data_up, carrying_formed, commands_down, answers_up, air_up, credit_up, ConnShaped, Shaped, cold_shaped, controller_shaped, host_shaped}

-- one connection changes
at_shaped : (c : ℕ) (f : Connection → Connection) (g : ℕ → Connection) → ConnShaped (f (g c)) → ((d : ℕ) → ConnShaped (g d)) → (d : ℕ) → ConnShaped (at c f g d)
at_shaped c f g h r = each c (λ d b. ConnShaped (pick b (f (g d)) (g d))) h r

-- ---- command, send, push

command_shaped : (s : State) (gid oid : ℕ) (o : Octets) → first (rules (command gid oid o) s) ≡ taken → Small s → Shaped s → Shaped (act (command gid oid o) s).next
command_shaped s gid oid o t k m =
    let third = need 3 (rules (command gid oid o) s) t in
    let front = or_left (ltb 15 gid || ltb 63 oid) (ltb 255 (length o)) third in
    let low = ltb-false 15 gid (or_left (ltb 15 gid) (ltb 63 oid) front) in
    let small = ltb-false 63 oid (or_right (ltb 15 gid) (ltb 63 oid) front) in
    record {
      down =
          each_append DownOk s.down (packets_of (control_header 1 gid oid) s.host.size o) m.down
          (commands_down gid oid (segments s.host.size o) (omega arith) (omega arith)
          (short_segments s.host.size o (omega (arith, k.size_least)) k.size_most));
      up = m.up;
      conns = m.conns;
    }

send_shaped : (s : State) (c : ℕ) (o : Octets) → first (rules (send c o) s) ≡ taken → ProfileWithin s.profile → Small s → Shaped s → Shaped (act (send c o) s).next
send_shaped s c o t l k m =
    let terms = held_terms s.profile c (s.conns c).host l (k.conns c).host (not-false _ (need 6 (rules (send c o) s) t)) in
    record {
      down = m.down;
      up = m.up;
      conns =
          at_shaped c (λ x. with_host (sent o x.host) x) s.conns
          (record { store = (m.conns c).store; hand = short_segments (s.conns c).host.payload o terms.least terms.most; speech = (m.conns c).speech })
          m.conns;
    }

push_shaped : (s : State) (c : ℕ) → first (rules (push c) s) ≡ taken → Shaped s → Shaped (act (push c) s).next
push_shaped s c t m = go (s.conns c).host.hand refl
  where
    go : (h : List Segment) → (s.conns c).host.hand ≡ h → Shaped (pushing c h s).next
    go [] e = m
    go (x ∷ h) e =
        let short : Short (x ∷ h) = rw e at (m.conns c).hand in
        record {
          down = each_append DownOk s.down (segment_packet (data_header c 0) x ∷ []) m.down (data_down_law c x (need 3 (rules (push c) s) t) short.0, tt);
          up = m.up;
          conns =
              at_shaped c (λ k. with_host (pushed h k.host) k) s.conns
              (record { store = (m.conns c).store; hand = short.1; speech = (m.conns c).speech }) m.conns;
        }

-- ---- down

deciding_shaped : (s : State) (gid oid : ℕ) (o : Octets) (v : Judgement) → Answerable s.config o v → gid < 16 → oid < 64 → Shaped s
    → Shaped (deciding gid oid o v s).next
deciding_shaped s gid oid o v a low small m =
    record {
      down = m.down;
      up = each_append UpOk s.up (answers gid oid s.profile s.config o v) m.up (answers_up gid oid s.profile s.config o v a low small);
      conns = λ d. controller_shaped (change_by v d) (s.conns d) (m.conns d);
    }

module _ (s : State) (aim : ℕ) (l : ℕ → Ledger) (p : Octets) (w : List Octets) (f : Fine (with_down (p ∷ w) s) aim l) (m : Shaped (with_down (p ∷ w) s)) where
  off : Shaped (with_down w s)
  off = record { down = m.down.1; up = m.up; conns = m.conns }

  answering_shaped : (gid oid : ℕ) (x : Segment) (ms : List Octets) (b : Bool) → Fit control_limit ms → gid < 16 → oid < 64
      → Shaped (answering gid oid ms b (with_asking (run_after s.asking 1 gid oid x) (with_down w s))).next
  unfolding Fit
  answering_shaped gid oid x [] b short low small = record { down = m.down.1; up = m.up; conns = m.conns }
  answering_shaped gid oid x (o ∷ ms) b short low small =
      let z = with_asking (run_after s.asking 1 gid oid x) (with_down w s) in
      deciding_shaped z gid oid o (judge_of s.profile s.controller (is_open z) gid oid o)
      (judge_answerable s.profile s.controller (is_open z) gid oid s.config o f.config short.0) low small
      (record { down = m.down.1; up = m.up; conns = m.conns })

  store_shaped : (c : ℕ) → Shaped (with_conns (at c (λ k. with_controller (stored p k.controller) k) s.conns) (with_down w s))
  store_shaped c =
      record {
        down = m.down.1;
        up = m.up;
        conns =
            at_shaped c (λ k. with_controller (stored p k.controller) k) s.conns
            (record {
              store = each_append (λ x. Formed x) (s.conns c).controller.store (p ∷ []) (m.conns c).store (m.down.0.0, tt);
              hand = (m.conns c).hand;
              speech = (m.conns c).speech;
            })
            m.conns;
      }

  arriving_shaped : (q : Meaning) → meaning p ≡ q → Shaped (arriving q p (with_down w s)).next
  arriving_shaped (datum c n x) means = on (λ (e : Effect). Shaped e.next) (is_open s c) (λ o. store_shaped c) (λ o. off)
  arriving_shaped (control mt gid oid x) means =
      on (λ (e : Effect). Shaped e.next) (eqb mt 1)
      (λ e. answering_shaped gid oid x (whole_by s.asking 1 gid oid x) _ (finished_fits control_limit (run_for s.asking 1 gid oid) x)
      (way_low (Aims aim) s.asking p w mt gid oid x means e f.way) (way_small (Aims aim) s.asking p w mt gid oid x means e f.way))
      (λ e. off)
  arriving_shaped junk means = off

down_shaped : (s : State) (aim : ℕ) (l : ℕ → Ledger) → first (rules down s) ≡ taken → Fine s aim l → Shaped s → Shaped (act down s).next
down_shaped s aim l t f m = go s.down (need 8 (rules down s) t) f m
  where
    go : (w : List Octets) → is_nil w ≡ false → Fine (with_down w s) aim l → Shaped (with_down w s) → Shaped (taking_down w s).next
    go [] e f m = clash refl e
    go (p ∷ w) e f m = arriving_shaped s aim l p w f m (meaning p) refl

-- ---- consume, credit, reply

-- what a loopback sends up again is data of one of the five
echo_up : (c n : ℕ) (p : Octets) (q : Meaning) → meaning p ≡ q → StoredIn c q → no_conn c ≡ false → Formed p → UpOk (carrying n p)
echo_up c n p (datum b m x) means h five f = (carrying_formed p b m x means f n, rw (meaning_carrying n p b m x means, h) five)
echo_up c n p (control mt gid oid x) means h five f = absurd h
echo_up c n p junk means h five f = absurd h

consume_shaped : (s : State) (aim : ℕ) (l : ℕ → Ledger) (c : ℕ) → first (rules (consume c) s) ≡ taken → Fine s aim l → Shaped s → Shaped (act (consume c) s).next
consume_shaped s aim l c t f m = go (s.conns c).controller.store refl
  where
    go : (st : List Octets) → (s.conns c).controller.store ≡ st → Shaped (consuming c st s).next
    go [] e = m
    go (p ∷ st) e =
        let formed : Each (λ x. Formed x) (p ∷ st) = rw e at (m.conns c).store in
        let n = carried_on (joined_end (segment_in (meaning p)) st (s.conns c).controller) in
        record {
          down = m.down;
          up =
              each_append UpOk s.up (echo c n p) m.up
              (on (Each UpOk) (is_loop c)
              (λ y. (echo_up c n p (meaning p) refl (rw e at (f.standing.stores c)).0 (need 3 (rules (consume c) s) t) formed.0, tt)) (λ y. tt));
          conns =
              at_shaped c (λ k. with_controller (echoed (is_loop c) (joined_end (segment_in (meaning p)) st k.controller)) k) s.conns
              (record { store = formed.1; hand = (m.conns c).hand; speech = (m.conns c).speech }) m.conns;
        }

credit_shaped : (s : State) → Shaped s → Shaped (act credit s).next
credit_shaped s m =
    record {
      down = m.down;
      up = each_append UpOk s.up _ m.up (credit_up _ _ _ _ _, tt);
      conns = λ d. record { store = (m.conns d).store; hand = (m.conns d).hand; speech = (m.conns d).speech };
    }

reply_shaped : (s : State) → Shaped s → Shaped (act reply s).next
unfolding place_of
reply_shaped s m = go (s.conns 0).controller.speech refl
  where
    go : (h : List Segment) → (s.conns 0).controller.speech ≡ h → Shaped (replying h s).next
    go [] e = m
    go (x ∷ h) e =
        let short : Short (x ∷ h) = rw e at (m.conns 0).speech in
        record {
          down = m.down;
          up =
              each_append UpOk s.up (segment_packet (data_header 0 (carried_on (s.conns 0).controller)) x ∷ []) m.up
              (data_up 0 (carried_on (s.conns 0).controller) x refl (omega (arith, carriable_few (owed_on (s.conns 0).controller))) short.0, tt);
          conns =
              at_shaped 0 (λ k. with_controller (paid (spoken h k.controller)) k) s.conns
              (record { store = (m.conns 0).store; hand = (m.conns 0).hand; speech = short.1 }) m.conns;
        }

-- ---- air

air_conns : (s : State) (o : Octets) (a : Option Aired) → Shaped s → (d : ℕ) → ConnShaped (aired_conns (terms_of s.profile 0) a o s.conns d)
air_conns s o None m d = m.conns d
air_conns s o (Some (Goes rf ls)) m d = m.conns d
air_conns s o (Some (Activates rf ls)) m d = controller_shaped (change_aired (terms_of s.profile 0) (Some (Activates rf ls)) d) (s.conns d) (m.conns d)
air_conns s o (Some (Ends rf)) m d = controller_shaped (change_aired (terms_of s.profile 0) (Some (Ends rf)) d) (s.conns d) (m.conns d)
air_conns s o (Some Speaks) m d =
    at_shaped 0 (λ k. with_controller (spoken (segments 255 (drop 1 o)) k.controller) k) s.conns
    (record { store = (m.conns 0).store; hand = (m.conns 0).hand; speech = short_segments 255 (drop 1 o) (omega arith) (omega arith) }) m.conns d

air_shaped : (s : State) (o : Octets) → Shaped s → Shaped (act (air o) s).next
air_shaped s o m =
    record {
      down = m.down;
      up = each_append UpOk s.up _ m.up (air_up s.profile o (event_of o) (event_within o));
      conns = air_conns s o (airing s o) m;
    }

-- ---- up

module _ (s : State) (p : Octets) (w : List Octets) (m : Shaped (with_up (p ∷ w) s)) where
  gone : Shaped (with_up w s)
  gone = record { down = m.down; up = m.up.1; conns = m.conns }

  hearing_shaped : (mt gid oid : ℕ) (x : Segment) (ms : List Octets) (b : Bool) → Shaped (hearing mt gid oid ms b (with_hearing (run_after s.hearing mt gid oid x) (with_up w s))).next
  hearing_shaped mt gid oid x [] b = record { down = m.down; up = m.up.1; conns = m.conns }
  hearing_shaped mt gid oid x (o ∷ ms) b =
      record {
        down = m.down;
        up = m.up.1;
        conns = λ d. host_shaped (change_heard (hear_of s.host.pending mt gid oid o) o d) (s.conns d) (m.conns d);
      }

  coming_shaped : (q : Meaning) → Shaped (coming q (with_up w s)).next
  coming_shaped (datum c n x) =
      on (λ (e : Effect). Shaped e.next) (is_held s c)
      (λ o.
      record {
        down = m.down;
        up = m.up.1;
        conns =
            at_shaped c (λ k. with_host (heard_data x (credited n k.host)) k) s.conns
            (record { store = (m.conns c).store; hand = (m.conns c).hand; speech = (m.conns c).speech }) m.conns;
      })
      (λ o. gone)
  coming_shaped (control mt gid oid x) =
      on (λ (e : Effect). Shaped e.next) (eqb mt 1) (λ e. gone) (λ e. hearing_shaped mt gid oid x (whole_by s.hearing mt gid oid x) _)
  coming_shaped junk = gone

up_shaped : (s : State) → first (rules up s) ≡ taken → Shaped s → Shaped (act up s).next
up_shaped s t m = go s.up (need 8 (rules up s) t) m
  where
    go : (w : List Octets) → is_nil w ≡ false → Shaped (with_up w s) → Shaped (taking_up w s).next
    go [] e m = clash refl e
    go (p ∷ w) e m = coming_shaped s p w m (meaning p)

-- ---- every call

act_shaped : (c : Call) (s : State) (aim : ℕ) (l : ℕ → Ledger) → first (rules c s) ≡ taken → Fine s aim l → Small s → Shaped s → Shaped (act c s).next
act_shaped (fresh o) s aim l t f k m = cold_shaped (profile_in o)
act_shaped power s aim l t f k m = cold_shaped s.profile
act_shaped (command gid oid o) s aim l t f k m = command_shaped s gid oid o t k m
act_shaped (send c o) s aim l t f k m = send_shaped s c o t f.limits k m
act_shaped (push c) s aim l t f k m = push_shaped s c t m
act_shaped down s aim l t f k m = down_shaped s aim l t f m
act_shaped (consume c) s aim l t f k m = consume_shaped s aim l c t f m
act_shaped credit s aim l t f k m = credit_shaped s m
act_shaped (air o) s aim l t f k m = air_shaped s o m
act_shaped reply s aim l t f k m = reply_shaped s m
act_shaped up s aim l t f k m = up_shaped s t m
act_shaped (report c) s aim l t f k m = m

pub wires : (s : State) → Shaped s → Wires s
wires s m =
    record {
      down = each_map DownOk (λ p. WellFormed p) s.down (λ p h. formed_well p h.0) m.down;
      down_kinds = each_map DownOk (λ p. GoesDown (meaning p)) s.down (λ p h. h.1) m.down;
      up = each_map UpOk (λ p. WellFormed p) s.up (λ p h. formed_well p h.0) m.up;
      up_kinds = each_map UpOk (λ p. GoesUp (meaning p)) s.up (λ p h. h.1) m.up;
      down_rfu = each_map DownOk (λ p. rfu_by way.Down (read_of p) ≡ 0) s.down (λ p h. formed_clear_down p h.0 h.1) m.down;
      up_rfu = each_map UpOk (λ p. rfu_by way.Up (read_of p) ≡ 0) s.up (λ p h. formed_clear_up p h.0) m.up;
    }

-- what each call keeps of it, sizes with it
abbrev pub SmallShaped : State → Type 0
SmallShaped s = Small s × Shaped s

pub shaped_stays : Stays SmallShaped
shaped_stays c s aim l t f h = (act_small c s aim l t f h.0, act_shaped c s aim l t f h.0 h.1)

pub shaped_start : (p : Profile) → ProfileWithin p → SmallShaped (cold p)
shaped_start p l = (cold_small p, cold_shaped p)

pub wires_well_formed : Always Wires
wires_well_formed profile ok calls = wires _ (always SmallShaped shaped_stays shaped_start profile ok calls).1
