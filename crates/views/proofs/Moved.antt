-- The moves on the wires: a packet put, a packet taken, a command's packets; and writes past the runs.
-- Assumes nothing.
use Prim.Native.Nat.{ℕ, ◌+◌, ◌%◌, ◌≤◌, ◌<◌}
use native.Mathlib.Omega.{arith}
use mathlib.Core.Path.{◌≡◌, ◌∙◌}
use mathlib.Core.Logic.{inl, inr}
use mathlib.Core.List.{[], ◌∷◌, ◌++◌}
use lib.ListN.{length}
use Rattle.octets.specs.Octets.{Octets, cut, splice}
use Rattle.octets.proofs.Octets.{length_cut}
use Rattle.views.specs.Kinds.{Header, Record}
use Rattle.packets.specs.Packet.{packet_of, carrying}
use Rattle.packets.proofs.Packet.{length_packet, length_carrying}
use Rattle.area.specs.Map.{down_at, up_at, store_at, hand_at, endpoint_at, host_run_at, controller_run_at, asking_at, hearing_at, payload_size, slot_size, wire_slots, wire_size, store_size, message_size, control_size, stores_at}
use Rattle.area.specs.Ring.{slot_packet, trim, free_at, took_from, put_into}
use Rattle.area.proofs.Rings.{slot_written, slot_copied, trim_carrying, wire, packets_put, packets_took}
use Rattle.record.specs.Layout.{config_octets}
use Rattle.record.specs.Plan.{with_down, with_up}
use Rattle.model.specs.State as bench
use Rattle.views.specs.View.{hand_of, control_run_of, conns_of, down_of, up_of, view}
use Rattle.views.specs.Moves.{Sound}
use Rattle.views.proofs.Parts.{Same, hand_same, run_same, packets_same}
use Rattle.views.proofs.Frames.{Outside, outside_splice, same_outside, config_outside, conns_kept}

-- ---- parts that a write leaves alone

module _ (a b : Octets) (r : Record) (s : Sound a r) where
  pub hearing_kept : Same hearing_at control_size a b → control_run_of hearing_at b r.ends.hearing ≡ control_run_of hearing_at a r.ends.hearing
  hearing_kept k i =
      record { mt = r.ends.hearing.mt; gid = r.ends.hearing.gid; oid = r.ends.hearing.oid; run = run_same hearing_at control_size a b r.ends.hearing.run s.fit.own.hearing k i }

  pub asking_kept : Same asking_at control_size a b → control_run_of asking_at b r.ends.asking ≡ control_run_of asking_at a r.ends.asking
  asking_kept k i =
      record { mt = r.ends.asking.mt; gid = r.ends.asking.gid; oid = r.ends.asking.oid; run = run_same asking_at control_size a b r.ends.asking.run s.fit.own.asking k i }

  pub endpoint_kept : Same endpoint_at message_size a b → hand_of endpoint_at payload_size b r.ends.endpoint ≡ hand_of endpoint_at payload_size a r.ends.endpoint
  endpoint_kept k = hand_same endpoint_at payload_size a b r.ends.endpoint s.fit.own.endpoint.at s.fit.own.endpoint.len k

  pub down_kept : Same down_at wire_size a b → down_of b r ≡ down_of a r
  down_kept k = packets_same down_at wire_slots wire a b r.down k

  pub up_kept : Same up_at wire_size a b → up_of b r ≡ up_of a r
  up_kept k = packets_same up_at wire_slots wire a b r.up k

  -- what is written on the wires leaves the rest
  pub record Off (lo hi : ℕ) : Type 0 where
    pub hearing : control_run_of hearing_at b r.ends.hearing ≡ control_run_of hearing_at a r.ends.hearing
    pub asking : control_run_of asking_at b r.ends.asking ≡ control_run_of asking_at a r.ends.asking
    pub conns : conns_of b r.ends.endpoint r.ends.conns ≡ conns_of a r.ends.endpoint r.ends.conns
    pub config : config_octets b ≡ config_octets a

  pub on_wires : (lo hi : ℕ) → hi ≤ stores_at → Outside lo hi a b → Off lo hi
  on_wires lo hi h o =
      record {
        hearing = hearing_kept (same_outside lo hi hearing_at control_size a b (inr (omega arith)) o);
        asking = asking_kept (same_outside lo hi asking_at control_size a b (inr (omega arith)) o);
        conns =
            conns_kept a b r.ends.conns s.shape.conns s.fit.conns r.ends.endpoint
            (λ p l.
            record {
              store = same_outside lo hi (store_at p) store_size a b (inr (omega arith)) o;
              hand = same_outside lo hi (hand_at p) message_size a b (inr (omega arith)) o;
              host_run_law = same_outside lo hi (host_run_at p) message_size a b (inr (omega arith)) o;
              controller_run_law = same_outside lo hi (controller_run_at p) message_size a b (inr (omega arith)) o;
            })
            (endpoint_kept (same_outside lo hi endpoint_at message_size a b (inr (omega arith)) o));
        config = config_outside lo hi a b (omega arith) o;
      }

-- ---- the down wire

module _ (a : Octets) (r : Record) (s : Sound a r) where
  -- where a slot of a wire ends
  down_slot_law : (v : Octets) → length v ≤ slot_size → free_at down_at wire_slots r.down + length v ≤ up_at
  down_slot_law v h = omega arith

  puts_down_as : (v x : Octets) → length v ≤ slot_size → r.down.count < wire_slots → slot_packet down_at (splice a (free_at down_at wire_slots r.down) v) ((r.down.head + r.down.count) % wire_slots) ≡ x
      → view (splice a (free_at down_at wire_slots r.down) v) (with_down (put_into r.down) r) ≡ bench.with_down (down_of a r ++ (x ∷ [])) (view a r)
  puts_down_as v x h l e i =
      let b : Octets = splice a (free_at down_at wire_slots r.down) v in
      let o : Outside down_at up_at a b = outside_splice down_at up_at a (free_at down_at wire_slots r.down) v (omega arith) (down_slot_law v h) in
      let off = on_wires a b r s down_at up_at (omega arith) o in
      record {
        profile = r.ends.profile;
        host = r.ends.host;
        controller = r.ends.controller;
        hearing = off.hearing i;
        asking = off.asking i;
        conns = off.conns i;
        down = packets_put down_at wire_slots wire a r.down v x l h e i;
        up = up_kept a b r s (same_outside down_at up_at up_at wire_size a b (inr (omega arith)) o) i;
        config = off.config i;
      }

  pub put_down : (h : Header) (m : Octets) → length m ≤ payload_size → r.down.count < wire_slots
      → view (splice a (free_at down_at wire_slots r.down) (packet_of h m)) (with_down (put_into r.down) r) ≡ bench.with_down (down_of a r ++ (packet_of h m ∷ [])) (view a r)
  put_down h m k l =
      puts_down_as (packet_of h m) (packet_of h m) (omega (arith, length_packet h m)) l
      (slot_written down_at a ((r.down.head + r.down.count) % wire_slots) h m k (omega (arith, s.room)))

  pub took_down_law : 0 < r.down.count
      → view a r ≡ bench.with_down (slot_packet down_at a r.down.head ∷ down_of a (with_down (took_from wire_slots r.down) r)) (view a (with_down (took_from wire_slots r.down) r))
  took_down_law h i = bench.with_down (packets_took down_at wire_slots wire a r.down s.fit.down.head h i) (view a r)

  -- ---- the up wire

  up_slot_law : (v : Octets) → length v ≤ slot_size → free_at up_at wire_slots r.up + length v ≤ stores_at
  up_slot_law v h = omega arith

  puts_up_as : (v x : Octets) → length v ≤ slot_size → r.up.count < wire_slots → slot_packet up_at (splice a (free_at up_at wire_slots r.up) v) ((r.up.head + r.up.count) % wire_slots) ≡ x
      → view (splice a (free_at up_at wire_slots r.up) v) (with_up (put_into r.up) r) ≡ bench.with_up (up_of a r ++ (x ∷ [])) (view a r)
  puts_up_as v x h l e i =
      let b : Octets = splice a (free_at up_at wire_slots r.up) v in
      let o : Outside up_at stores_at a b = outside_splice up_at stores_at a (free_at up_at wire_slots r.up) v (omega arith) (up_slot_law v h) in
      let off = on_wires a b r s up_at stores_at (omega arith) o in
      record {
        profile = r.ends.profile;
        host = r.ends.host;
        controller = r.ends.controller;
        hearing = off.hearing i;
        asking = off.asking i;
        conns = off.conns i;
        down = down_kept a b r s (same_outside up_at stores_at down_at wire_size a b (inl (omega arith)) o) i;
        up = packets_put up_at wire_slots wire a r.up v x l h e i;
        config = off.config i;
      }

  pub put_up : (h : Header) (m : Octets) → length m ≤ payload_size → r.up.count < wire_slots
      → view (splice a (free_at up_at wire_slots r.up) (packet_of h m)) (with_up (put_into r.up) r) ≡ bench.with_up (up_of a r ++ (packet_of h m ∷ [])) (view a r)
  put_up h m k l =
      puts_up_as (packet_of h m) (packet_of h m) (omega (arith, length_packet h m)) l
      (slot_written up_at a ((r.up.head + r.up.count) % wire_slots) h m k (omega (arith, s.room)))

  pub echo_up : (from n : ℕ) → from + slot_size ≤ length a → r.up.count < wire_slots
      → view (splice a (free_at up_at wire_slots r.up) (carrying n (cut from slot_size a))) (with_up (put_into r.up) r)
      ≡ bench.with_up (up_of a r ++ (carrying n (trim (cut from slot_size a)) ∷ [])) (view a r)
  echo_up from n k l =
      let v : Octets = carrying n (cut from slot_size a) in
      let long : length v ≡ slot_size = length_carrying n (cut from slot_size a) ∙ length_cut from slot_size a k in
      puts_up_as v (carrying n (trim (cut from slot_size a))) (omega arith) l
      (slot_copied up_at a ((r.up.head + r.up.count) % wire_slots) v long (omega (arith, s.room)) ∙ trim_carrying n (cut from slot_size a))

  pub took_up : 0 < r.up.count
      → view a r ≡ bench.with_up (slot_packet up_at a r.up.head ∷ up_of a (with_up (took_from wire_slots r.up) r)) (view a (with_up (took_from wire_slots r.up) r))
  took_up h i = bench.with_up (packets_took up_at wire_slots wire a r.up s.fit.up.head h i) (view a r)
