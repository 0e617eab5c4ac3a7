-- What each mover does to the view: what changed, and that nothing else did. Each is one equation between states of the model.
-- Assumes nothing.
use Rattle.std.specs.Prelude.{ℕ, ◌+◌, ◌≤◌, ◌<◌, ◌≡◌, true, [], ◌∷◌, ◌++◌, length, set}
use Rattle.octets.specs.Octets.{Octets, cut, splice}
use Rattle.views.specs.Kinds.{Header, Profile, Progress, Counts, Record, Joined}
use Rattle.packets.specs.Packet.{packet_of, carrying}
use Rattle.packets.specs.Segments.{Segment, body, flag, segments, segment_at, packets_of}
use Rattle.packets.specs.Reassembly.{grown, finished, flagged}
use Rattle.state.specs.Conn as conn
use Rattle.state.specs.Conn.{place_of, counts_of, hand_with, hand_after}
use Rattle.state.specs.Runs.{handed_on, joined_of, run_for, control_joined}
use Rattle.config.specs.Table.{config_size}
use Rattle.config.specs.Stored.{defaults}
use Rattle.record.specs.Layout.{config_at, configured}
use Rattle.record.specs.Fit.{Shape, Fit}
use Rattle.record.specs.Plan.{with_down, with_up, with_conns, with_endpoint, with_hearing, with_asking, with_hand, with_host_run, with_store, with_controller_run, cold_record}
use Rattle.area.specs.Map.{payload_size, slot_size, wire_slots, store_slots, message_size, control_size, places, down_at, up_at, store_at, hand_at, endpoint_at, host_run_at, controller_run_at, asking_at, hearing_at, spare_at, area_size}
use Rattle.area.specs.Ring.{slot_packet, trim, packets_in, free_at, took_from, put_into}
use Rattle.area.specs.Movers.{puts_all}
use Rattle.area.specs.Runs.{run_area}
use Rattle.model.specs.Connection.{ControllerEnd, sent, heard_data, stored, spoken}
use Rattle.model.specs.Connection as connection
use Rattle.model.specs.State as bench
use Rattle.model.specs.Runs.{run_after}
use Rattle.views.specs.View.{hand_of, run_of, connection_of, speech_of, down_of, up_of, view}

-- ---- one run

-- a segment joined a run: the octets after it are those of the packet layer's reassembly, a message that it finishes stands from
-- base on, and the drop flag is the same
pub record RunJoined (limit base : ℕ) (a : Octets) (p : Progress) (x : Segment) (b : Octets) (j : Joined) : Type 0 where
  pub next : run_of base b j.next ≡ grown limit (run_of base a p) x
  pub message : finished limit (run_of base a p) x ≡ handed_on j.done (cut base (p.len + length (body x)) b)
  pub drop : j.dropped ≡ flagged limit (run_of base a p) x

-- how far a run is after a segment
abbrev pub joined : ℕ → Progress → Segment → Progress
joined limit p x = (joined_of limit p (flag x) (length (body x))).next

-- ---- the bench

-- an area with room, and a record that row 1 lets pass
pub record Sound (a : Octets) (r : Record) : Type 0 where
  pub room : area_size ≤ length a
  pub fit : Fit r
  pub shape : Shape r

-- a run of the controller's grew; the rest of that end is as it was
abbrev pub grew : Segment → ControllerEnd → ControllerEnd
grew x k = record { opened = k.opened; grant = k.grant; owed = k.owed; store = k.store; run = grown message_size k.run x; speech = k.speech }

module _ (a : Octets) (r : Record) where
  -- the numbers of a connection
  abbrev counts : ℕ → Counts
  counts c = counts_of r.ends.conns c

  pub record Moves : Type 0 where
    -- a packet is written into the first free slot of a wire
    pub put_down : (h : Header) (m : Octets) → length m ≤ payload_size → r.down.count < wire_slots
        → view (splice a (free_at down_at wire_slots r.down) (packet_of h m)) (with_down (put_into r.down) r)
        ≡ bench.with_down (down_of a r ++ (packet_of h m ∷ [])) (view a r)
    pub put_up : (h : Header) (m : Octets) → length m ≤ payload_size → r.up.count < wire_slots
        → view (splice a (free_at up_at wire_slots r.up) (packet_of h m)) (with_up (put_into r.up) r)
        ≡ bench.with_up (up_of a r ++ (packet_of h m ∷ [])) (view a r)
    -- a slot is copied there, with n credits in its packet
    pub echo_up : (from n : ℕ) → from + slot_size ≤ length a → r.up.count < wire_slots
        → view (splice a (free_at up_at wire_slots r.up) (carrying n (cut from slot_size a))) (with_up (put_into r.up) r)
        ≡ bench.with_up (up_of a r ++ (carrying n (trim (cut from slot_size a)) ∷ [])) (view a r)
    -- the first packet of a wire is taken
    pub took_down_law : 0 < r.down.count
        → view a r ≡ bench.with_down (slot_packet down_at a r.down.head ∷ down_of a (with_down (took_from wire_slots r.down) r)) (view a (with_down (took_from wire_slots r.down) r))
    pub took_up : 0 < r.up.count
        → view a r ≡ bench.with_up (slot_packet up_at a r.up.head ∷ up_of a (with_up (took_from wire_slots r.up) r)) (view a (with_up (took_from wire_slots r.up) r))
    -- a slot is copied into the first free slot of a connection's store
    pub put_store : (c from : ℕ) → place_of c < places → from + slot_size ≤ length a → (counts c).controller.store.count < store_slots
        → view (splice a (free_at (store_at (place_of c)) store_slots (counts c).controller.store) (cut from slot_size a))
        (with_conns (conn.with_controller r.ends.conns c (with_store (put_into (counts c).controller.store) (counts c).controller)) r)
        ≡ bench.with_conns (bench.at c (λ k. connection.with_controller (stored (trim (cut from slot_size a)) k.controller) k) (view a r).conns) (view a r)
    -- the oldest packet of a store, and those after it
    pub took_store : (c : ℕ) → place_of c < places → 0 < (counts c).controller.store.count
        → ((view a r).conns c).controller.store
        ≡ slot_packet (store_at (place_of c)) a (counts c).controller.store.head ∷ packets_in (store_at (place_of c)) store_slots a (took_from store_slots (counts c).controller.store)
    -- a message is taken into its place
    pub put_hand : (c : ℕ) (m : Octets) → place_of c < places → length m ≤ message_size
        → view (splice a (hand_at (place_of c)) m)
        (with_conns (conn.with_host r.ends.conns c (with_hand (hand_with (length m)) (counts c).host)) r)
        ≡ bench.with_conns (bench.at c (λ k. connection.with_host (sent m k.host) k) (view a r).conns) (view a r)
    pub put_endpoint : (m : Octets) → length m ≤ message_size
        → view (splice a endpoint_at m) (with_endpoint (hand_with (length m)) r)
        ≡ bench.with_conns (bench.at 0 (λ k. connection.with_controller (spoken (segments payload_size m) k.controller) k) (view a r).conns) (view a r)
    -- the next segment of a message in hand, a part of the message, and those after it
    pub gone_hand : (c : ℕ) → place_of c < places → (counts c).host.hand.full ≡ true → 1 ≤ (counts c).host.payload
        → ((view a r).conns c).host.hand
        ≡ segment_at (counts c).host.payload (cut (hand_at (place_of c)) (counts c).host.hand.len a) (counts c).host.hand.at
        ∷ hand_of (hand_at (place_of c)) (counts c).host.payload a (hand_after (counts c).host.payload (counts c).host.hand)
    pub gone_endpoint : r.ends.endpoint.full ≡ true
        → ((view a r).conns 0).controller.speech
        ≡ segment_at payload_size (cut endpoint_at r.ends.endpoint.len a) r.ends.endpoint.at ∷ hand_of endpoint_at payload_size a (hand_after payload_size r.ends.endpoint)
    -- a segment joins a run
    pub join_host : (c : ℕ) (x : Segment) → place_of c < places
        → view (run_area message_size (host_run_at (place_of c)) a (counts c).host.run (body x))
        (with_conns (conn.with_host r.ends.conns c (with_host_run (joined message_size (counts c).host.run x) (counts c).host)) r)
        ≡ bench.with_conns (bench.at c (λ k. connection.with_host (heard_data x k.host) k) (view a r).conns) (view a r)
    pub join_controller : (c : ℕ) (x : Segment) → place_of c < places
        → view (run_area message_size (controller_run_at (place_of c)) a (counts c).controller.run (body x))
        (with_conns (conn.with_controller r.ends.conns c (with_controller_run (joined message_size (counts c).controller.run x) (counts c).controller)) r)
        ≡ bench.with_conns (bench.at c (λ k. connection.with_controller (grew x k.controller) k) (view a r).conns) (view a r)
    -- h: the packet's header, whose flag is the segment's
    pub join_hearing : (h : Header) (x : Segment) → h.pbf ≡ flag x
        → view (run_area control_size hearing_at a (run_for r.ends.hearing h) (body x)) (with_hearing (control_joined r.ends.hearing h (length (body x))).next r)
        ≡ bench.with_hearing (run_after (view a r).hearing h.mt h.id h.oid x) (view a r)
    pub join_asking : (h : Header) (x : Segment) → h.pbf ≡ flag x
        → view (run_area control_size asking_at a (run_for r.ends.asking h) (body x)) (with_asking (control_joined r.ends.asking h (length (body x))).next r)
        ≡ bench.with_asking (run_after (view a r).asking h.mt h.id h.oid x) (view a r)
    -- all segments of a message are written into the free slots of the down wire
    pub puts_down : (h : Header) (size : ℕ) (m : Octets) → 1 ≤ size → size ≤ payload_size → r.down.count + length (segments size m) ≤ wire_slots
        → view (puts_all down_at a r.down (packets_of h size m)) (with_down (record { head = r.down.head; count = r.down.count + length (segments size m) }) r)
        ≡ bench.with_down (down_of a r ++ packets_of h size m) (view a r)
    -- the numbers of one connection change, and no octet
    pub counts_set : (c : ℕ) (k : Counts) → place_of c < places
        → view a (with_conns (set r.ends.conns (place_of c) k) r)
        ≡ bench.with_conns (bench.at c (λ _. connection_of (place_of c) a k (speech_of a r.ends.endpoint c)) (view a r).conns) (view a r)
    -- the record is written, or what is left over
    pub past_runs : (at : ℕ) (v : Octets) → spare_at ≤ at → at + length v ≤ config_at → view (splice a at v) r ≡ view a r
    -- the configuration is written
    pub put_config : (b : Octets) → length b ≡ config_size → view (configured a b) r ≡ bench.with_config b (view a r)

-- fresh and power: a cold record with every parameter at its default stands for a cold bench, whatever else the area has
abbrev pub Cold : Type 0
Cold = (a : Octets) (p : Profile) → area_size ≤ length a → view (configured a defaults) (cold_record p) ≡ bench.cold p
