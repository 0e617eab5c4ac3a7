-- down on octets: the controller takes the first down packet, stores data and answers a command when it is whole.
-- Assumes nothing.
use Rattle.std.specs.Prelude.{ℕ, ◌+◌, ◌≤◌, ◌<◌, ◌≡◌, true, false, List, [], ◌∷◌, length, eqb, Some, None, Option}
use Rattle.octets.specs.Octets.{Octets, pick, cut, splice}
use Rattle.packets.specs.Packet.{packet_of, read_of, payload_of}
use Rattle.packets.specs.Reserved.{rfu_by}
use Rattle.packets.specs.Headers.{control_header}
use Rattle.calls.specs.Kinds.{Header, Reading, Ring, ControlRun, ControllerSide, Counts, Record, ControlJoined, Note}
use Rattle.calls.specs.Kinds.way.{Down}
use Rattle.state.specs.Judgement.{Judgement}
use Rattle.state.specs.Conn as conn
use Rattle.state.specs.Conn.{place_of, counts_of, open_at}
use Rattle.state.specs.Runs.{run_for, control_joined}
use Rattle.ends.specs.Steps.{ends_after, verdict_of}
use Rattle.area.specs.Map.{slot_size, wire_slots, store_slots, control_size, places, down_at, up_at, store_at, asking_at}
use Rattle.area.specs.Ring.{first_at, free_at, took_from, put_into}
use Rattle.area.specs.Movers.{puts_all}
use Rattle.area.specs.Runs.{run_area}
use Rattle.record.specs.Reading.{decode_of}
use Rattle.nfcc.specs.Controller.{config_by}
use Rattle.record.specs.Layout.{config_octets, configured}
use Rattle.record.specs.Claims.{saved}
use Rattle.record.specs.Fit.{FitRing}
use Rattle.record.specs.Plan.{with_down, with_up, with_ends, with_conns, with_asking, with_store}
use Rattle.views.specs.View.{view_of}
use Rattle.model.specs.calls.Down.{answers, down_rules}
use Rattle.calls.specs.Word.{word_of}
use Rattle.calls.specs.Outcome.{Outcome, outcome, tells, called}

-- ---- the first packet

-- where its slot starts, and what the reader finds there
abbrev pub down_slot : Record → ℕ
down_slot r = first_at down_at r.down

abbrev pub down_read : Record → Octets → Reading
down_read r a = read_of (cut (down_slot r) slot_size a)

-- the packet is off the wire
abbrev pub took_down : Record → Record
took_down r = with_down (took_from wire_slots r.down) r

-- dropped: nothing else changes
abbrev pub down_dropped : Record → Octets → Octets → Outcome
down_dropped t a out = outcome (word_of true false 0 0 0) (saved a t) out

-- ---- data: the slot is copied, unchanged, into the first free slot of the connection's store

abbrev pub controller_side : Record → ℕ → ControllerSide
controller_side r c = (counts_of r.ends.conns c).controller

abbrev pub stored_record : Record → ℕ → Record
stored_record t c =
    with_conns (conn.with_controller t.ends.conns c (with_store (put_into (controller_side t c).store) (controller_side t c))) t

abbrev pub stored_slot : Record → ℕ → ℕ → Octets → Octets
stored_slot t slot c a = splice a (free_at (store_at (place_of c)) store_slots (controller_side t c).store) (cut slot slot_size a)

abbrev pub data_stored : Record → ℕ → ℕ → Octets → Octets → Outcome
data_stored t slot c a out = outcome (word_of false false 0 0 0) (saved (stored_slot t slot c a) (stored_record t c)) out

-- dropped if the connection isn't open
unfoldable pub data_down : Record → ℕ → ℕ → Octets → Octets → Outcome
data_down t slot c a out = pick (open_at t.ends.conns c) (data_stored t slot c a out) (down_dropped t a out)

-- ---- a command's segment joins the controller's run

abbrev pub asked_run : Record → Header → ℕ → ControlJoined
asked_run t h n = control_joined t.ends.asking h n

abbrev pub asked_record : Record → Header → ℕ → Record
asked_record t h n = with_asking (asked_run t h n).next t

abbrev pub joined_area : ControlRun → ℕ → Header → ℕ → Octets → Octets
joined_area asking slot h n a = run_area control_size asking_at a (run_for asking h) (payload_of (cut slot slot_size a) n)

abbrev pub asked_area : Record → ℕ → Header → ℕ → Octets → Octets
asked_area t slot h n a = joined_area t.ends.asking slot h n a

-- it ends no command, or one past its limit, which is not answered
abbrev pub only_joined : Record → ℕ → Header → ℕ → Octets → Octets → Outcome
only_joined t slot h n a out =
    outcome (word_of (asked_run t h n).dropped false 0 0 0) (saved (asked_area t slot h n a) (asked_record t h n)) out

-- ---- messages as packets

-- the packet of a control message that was written over the front of a buffer, from what was noted of it
abbrev pub note_packet : ℕ → Note → Octets → Octets
note_packet mt note m = packet_of (control_header mt note.gid note.oid) (cut 0 note.len m)

-- a response, and a notification where there is one
unfoldable pub note_packets : Note → Octets → Option Note → Octets → List Octets
note_packets response rsp None ntf = note_packet 2 response rsp ∷ []
note_packets response rsp (Some notice) ntf = note_packet 2 response rsp ∷ note_packet 3 notice ntf ∷ []

-- ---- a whole command is answered, t and a having its run joined

-- it stands in the area
abbrev pub command_in : ℕ → Octets → Octets
command_in len a = cut asking_at len a

-- the packets that go up: the response, and the notification after it where there is one
abbrev pub answers_to : Record → Header → Octets → Octets → Judgement → List Octets
answers_to t h b m v = answers h.id h.oid t.ends.profile b m v

abbrev pub more_up : ℕ → Ring → Ring
more_up n k = record { head = k.head; count = k.count + n }

abbrev pub answered_record : Record → Header → Octets → Octets → Judgement → Record
answered_record t h b m v = with_up (more_up (length (answers_to t h b m v)) t.up) (with_ends (ends_after t.ends v) t)

-- the packets, and the configuration after the command
abbrev pub answered_area : Record → Header → Octets → Octets → Judgement → Octets → Octets
answered_area t h b m v a = configured (puts_all up_at a t.up (answers_to t h b m v)) (config_by b m v)

-- b is the configuration before it, m the command
abbrev pub answered_by : Record → Header → Octets → Octets → Judgement → Octets → Octets → Outcome
answered_by t h b m v a out =
    outcome (word_of false false 0 0 (length (answers_to t h b m v))) (saved (answered_area t h b m v a) (answered_record t h b m v)) out

abbrev pub answered : Record → Header → Octets → Octets → Octets → Outcome
answered t h m a out = answered_by t h (config_octets a) m (verdict_of t.ends h.id h.oid m) a out

unfoldable pub command_down : Record → ℕ → Header → ℕ → Octets → Octets → Outcome
command_down t slot h n a out =
    pick (asked_run t h n).done
    (answered (asked_record t h n) h (command_in ((asked_run t h n).base + n) (asked_area t slot h n a)) (asked_area t slot h n a) out)
    (only_joined t slot h n a out)

-- ---- by what the reader found: commands and data aside, all is dropped

unfoldable pub arrived : Record → ℕ → Reading → Octets → Octets → Outcome
arrived t slot (Some (h, n)) a out =
    pick (eqb h.mt 0) (data_down t slot h.id a out)
    (pick (eqb h.mt 1) (command_down t slot h n a out) (down_dropped t a out))
arrived t slot None a out = down_dropped t a out

abbrev pub downed : Record → Octets → Octets → Outcome
downed r a out = tells (rfu_by Down (down_read r a)) (arrived (took_down r) (down_slot r) (down_read r a) a out)

unfoldable pub down_call : Octets → Octets → Outcome
down_call a out = called (down_rules (view_of a)) (downed (decode_of a) a out) a out

-- ---- what is known where no rule applies

-- of the first packet's header: its connection's store has room, if the packet is data; the up wire has two free slots, if it is
-- the last of a command
pub record Arrivable (conns : List Counts) (up : Ring) (h : Header) : Type 0 where
  pub place : open_at conns h.id ≡ true → place_of h.id < places
  pub store : open_at conns h.id ≡ true → FitRing store_slots (counts_of conns h.id).controller.store
  pub room : h.mt ≡ 0 → open_at conns h.id ≡ true → (counts_of conns h.id).controller.store.count < store_slots
  pub ring : FitRing wire_slots up
  pub two : h.mt ≡ 1 → h.pbf ≡ false → up.count + 2 ≤ wire_slots

pub record Downable (r : Record) (a : Octets) : Type 0 where
  pub some : 0 < r.down.count
  pub ring : FitRing wire_slots r.down
  pub packet : (h : Header) (n : ℕ) → down_read r a ≡ Some (h, n) → Arrivable r.ends.conns r.up h
