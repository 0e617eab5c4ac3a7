-- What is going on on the bench, in 27 octets, for front ends that say it. It is none of the twelve calls, and no octet of the area changes.
-- Assumes nothing.
use Rattle.std.specs.Prelude.{ℕ, ◌≤◌, ◌≡◌, true, false, not, ◌&&◌, List, [], ◌∷◌, ◌++◌, length, get_or}
use Rattle.octets.specs.Octets.{Octets, splice}
use Rattle.calls.specs.Kinds.{HostSide, Counts, Record}
use Rattle.state.specs.Conn.{closed_counts}
use Rattle.area.specs.Map.{message_size}
use Rattle.record.specs.Layout.{low, bit}
use Rattle.record.specs.Reading.{decode_of}
use Rattle.record.specs.Writing.{phase_octet, rf_octets, pending_octets}
use Rattle.views.specs.View.{view_of}
use Rattle.model.specs.State.{State, is_open}
use Rattle.model.specs.Refusals.{is_nil, is_held}
use Rattle.calls.specs.Word.{word_of}
use Rattle.calls.specs.Outcome.{Outcome, outcome, called}
use Rattle.calls.specs.Refines.{Good}
use Rattle.calls.specs.Packet.{handed_by}

-- ---- the octets, from the record

-- packets on the down wire and on the up wire, and whether the endpoint has a message in hand
abbrev pub traffic_look : Record → Octets
traffic_look r = low r.down.count ∷ low r.up.count ∷ bit r.ends.endpoint.full ∷ []

-- a message in hand at the host; where the connection is not open there, none counts
unfoldable pub in_hand : HostSide → ℕ
in_hand h = bit (h.opened && h.hand.full)

-- of a connection: open at the host, open at the controller, a message in hand
abbrev pub counts_look : Counts → Octets
counts_look k = bit k.host.opened ∷ bit k.controller.opened ∷ in_hand k.host ∷ []

abbrev pub look_in : List Counts → ℕ → Octets
look_in l p = counts_look (get_or l p closed_counts)

unfoldable pub conns_look : List Counts → Octets
conns_look l = look_in l 0 ++ look_in l 1 ++ look_in l 2 ++ look_in l 3 ++ look_in l 4

-- the controller's phase, the RF state, the unanswered command, then those
unfoldable pub look_of : Record → Octets
look_of r =
    (phase_octet r.ends.controller.phase ∷ []) ++ rf_octets r.ends.controller.rf ++ pending_octets r.ends.host.pending
    ++ traffic_look r ++ conns_look r.ends.conns

-- ---- the call: it has no rule of its own

abbrev pub look_size : ℕ
look_size = 27

abbrev pub look_word : ℕ
look_word = word_of false true look_size 0 0

-- the octets are handed out as a message is
abbrev pub looked : Record → Octets → Octets → Outcome
looked r a out = outcome look_word a (splice out 0 (look_of r))

unfoldable pub state_call : Octets → Octets → Outcome
state_call a out = called [] (looked (decode_of a) a out) a out

-- ---- what the octets say of the model's state

-- the endpoint has a message in hand where reply finds a segment of it
abbrev pub traffic_said : State → Octets
traffic_said s = length s.down ∷ length s.up ∷ bit (not (is_nil (s.conns 0).controller.speech)) ∷ []

abbrev pub conn_said : State → ℕ → Octets
conn_said s c = bit (is_held s c) ∷ bit (is_open s c) ∷ bit (is_held s c && not (is_nil (s.conns c).host.hand)) ∷ []

abbrev pub conns_said : State → Octets
conns_said s = conn_said s 0 ++ conn_said s 2 ++ conn_said s 3 ++ conn_said s 4 ++ conn_said s 5

unfoldable pub state_said : State → Octets
state_said s =
    (phase_octet s.controller.phase ∷ []) ++ rf_octets s.controller.rf ++ pending_octets s.host.pending
    ++ traffic_said s ++ conns_said s

-- with whatever octets, the area is as it was; with a good record and room for a message, what is handed out says the state that
-- the area stands for
pub record Says (a out : Octets) : Type 0 where
  pub same : (state_call a out).area ≡ a
  pub said : Good a → message_size ≤ length out → handed_by (state_call a out) ≡ state_said (view_of a) ∷ []
