-- up on octets: the host takes the first packet of the up wire, hands out a finished data message and hears a control message when it is
-- whole.
-- Assumes nothing.
use Rattle.std.specs.Prelude.{ℕ, ◌+◌, ◌<◌, ◌≡◌, Bool, true, false, length, eqb, Some, None}
use Rattle.octets.specs.Octets.{Octets, pick, cut, splice}
use Rattle.packets.specs.Packet.{read_of, payload_of}
use Rattle.packets.specs.Reserved.{rfu_by}
use Rattle.calls.specs.Kinds.{Header, Reading, HostSide, Ends, Record, Joined, ControlJoined, Heeded}
use Rattle.calls.specs.Kinds.way.{Up}
use Rattle.state.specs.Conn as conn
use Rattle.state.specs.Conn.{place_of}
use Rattle.state.specs.Runs.{joined_of, run_for, control_joined}
use Rattle.dh.specs.Host.{credited}
use Rattle.ends.specs.Steps.{heeded}
use Rattle.area.specs.Map.{slot_size, wire_slots, message_size, control_size, places, up_at, host_run_at, hearing_at}
use Rattle.area.specs.Ring.{first_at, took_from}
use Rattle.area.specs.Runs.{run_area}
use Rattle.record.specs.Reading.{decode_of}
use Rattle.record.specs.Claims.{saved}
use Rattle.record.specs.Fit.{FitRing}
use Rattle.record.specs.Plan.{with_conns, with_hearing, with_host_run}
use Rattle.views.specs.View.{view_of}
use Rattle.model.specs.calls.Up.{up_rules}
use Rattle.calls.specs.Word.{word_of}
use Rattle.calls.specs.Outcome.{Outcome, outcome, tells, called}
use Rattle.calls.specs.calls.Push.{host_side}

-- ---- the packet

-- its slot, what the reader finds there, and its payload of n octets
abbrev pub up_slot : Record → ℕ
up_slot r = first_at up_at r.up

abbrev pub up_read : Record → Octets → Reading
up_read r a = read_of (cut (up_slot r) slot_size a)

abbrev pub up_payload : Record → ℕ → Octets → Octets
up_payload r n a = payload_of (cut (up_slot r) slot_size a) n

-- the record after it: the packet is off the wire, and both ends have these numbers
abbrev pub up_record : Record → Ends → Record
up_record r e = record { ends = e; down = r.down; up = took_from wire_slots r.up }

-- dropped: nothing else changes
abbrev pub dropped_up : Record → Octets → Octets → Outcome
dropped_up r a out = outcome (word_of true false 0 0 0) (saved a (up_record r r.ends)) out

-- ---- data: its credits are held, the segment joins the connection's run, and a message that it finishes is handed out

abbrev pub received_join : Record → Header → ℕ → Joined
received_join r h n = joined_of message_size (host_side r h.id).run h.pbf n

-- the connection with the packet's credits
abbrev pub received_side : Record → Header → HostSide
received_side r h = credited (host_side r h.id) h.credits

abbrev pub received_ends : Record → Header → ℕ → Ends
received_ends r h n = (with_conns (conn.with_host r.ends.conns h.id (with_host_run (received_join r h n).next (received_side r h))) r).ends

abbrev pub received_area : Record → Header → ℕ → Octets → Octets
received_area r h n a = run_area message_size (host_run_at (place_of h.id)) a (host_side r h.id).run (up_payload r n a)

-- the message is the run's octets, those of the segment with them
abbrev pub received_length : Record → Header → ℕ → ℕ
received_length r h n = (host_side r h.id).run.len + n

abbrev pub received_message : Record → Header → ℕ → Octets → Octets
received_message r h n a = cut (host_run_at (place_of h.id)) (received_length r h n) (received_area r h n a)

abbrev pub received_word : Record → Header → ℕ → ℕ
received_word r h n =
    word_of (received_join r h n).dropped (received_join r h n).done (pick (received_join r h n).done (received_length r h n) 0) 0 0

-- past the message the buffer keeps its own
abbrev pub received_out : Record → Header → ℕ → Octets → Octets → Octets
received_out r h n a out = pick (received_join r h n).done (splice out 0 (received_message r h n a)) out

abbrev pub received : Record → Header → ℕ → Octets → Octets → Outcome
received r h n a out =
    outcome (received_word r h n) (saved (received_area r h n a) (up_record r (received_ends r h n))) (received_out r h n a out)

-- data for a connection not open at the host is dropped, its credits with it
unfoldable pub received_up : Record → Header → ℕ → Octets → Octets → Outcome
received_up r h n a out = pick (host_side r h.id).opened (received r h n a out) (dropped_up r a out)

-- ---- control: the segment joins the control run, and a message that it makes whole is heard

abbrev pub heard_join : Record → Header → ℕ → ControlJoined
heard_join r h n = control_joined r.ends.hearing h n

abbrev pub joined_ends : Record → Header → ℕ → Ends
joined_ends r h n = (with_hearing (heard_join r h n).next r).ends

abbrev pub heard_area : Record → Header → ℕ → Octets → Octets
heard_area r h n a = run_area control_size hearing_at a (run_for r.ends.hearing h) (up_payload r n a)

abbrev pub heard_message : Record → Header → ℕ → Octets → Octets
heard_message r h n a = cut hearing_at ((heard_join r h n).base + n) (heard_area r h n a)

-- what the host makes of a whole message
abbrev pub heeded_up : Record → Header → ℕ → Octets → Heeded
heeded_up r h n a = heeded (joined_ends r h n) h.mt h.id h.oid (heard_message r h n a)

unfoldable pub heard_ends : Record → Header → ℕ → Octets → Ends
heard_ends r h n a = pick (heard_join r h n).done (heeded_up r h n a).next (joined_ends r h n)

unfoldable pub heard_drop : Record → Header → ℕ → Octets → Bool
heard_drop r h n a = pick (heard_join r h n).done (heeded_up r h n a).dropped (heard_join r h n).dropped

abbrev pub heard_word : Record → Header → ℕ → Octets → ℕ
heard_word r h n a = word_of (heard_drop r h n a) false 0 0 0

abbrev pub heard_up : Record → Header → ℕ → Octets → Octets → Outcome
heard_up r h n a out = outcome (heard_word r h n a) (saved (heard_area r h n a) (up_record r (heard_ends r h n a))) out

-- ---- by what the reader found; a command at the host is dropped

unfoldable pub coming_up : Record → Header → ℕ → Octets → Octets → Outcome
coming_up r h n a out =
    pick (eqb h.mt 0) (received_up r h n a out) (pick (eqb h.mt 1) (dropped_up r a out) (heard_up r h n a out))

abbrev pub read_up : Record → Reading → Octets → Octets → Outcome
read_up r (Some (h, n)) a out = coming_up r h n a out
read_up r None a out = dropped_up r a out

abbrev pub upped : Record → Octets → Octets → Outcome
upped r a out = tells (rfu_by Up (up_read r a)) (read_up r (up_read r a) a out)

unfoldable pub up_call : Octets → Octets → Outcome
up_call a out = called (up_rules (view_of a)) (upped (decode_of a) a out) a out

-- ---- what is known of a record where no rule applies

pub record Uppable (r : Record) : Type 0 where
  pub some : 0 < r.up.count
  pub ring : FitRing wire_slots r.up
  pub conns : length r.ends.conns ≡ places
