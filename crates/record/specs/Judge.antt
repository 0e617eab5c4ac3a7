-- Which records can be: row 1 of document 01, "Numbers for a call not taken". Its words stand over what they say.
-- Assumes nothing.
use Rattle.std.specs.Prelude.{ℕ, ◌+◌, Bool, not, ◌&&◌, ◌||◌, List, get_or, eqb, ltb, leb}
use Rattle.octets.specs.Octets.{Octets}
use Rattle.record.specs.Kinds.{Hand, Ring, HostSide, ControllerSide, Counts, Ends, Record}
use Rattle.state.specs.Conn.{closed_counts}
use Rattle.state.specs.Profile.{least_size, profile_ok}
use Rattle.area.specs.Map.{wire_slots, store_slots, message_size, control_size}
use Rattle.config.specs.Stored.{parameters_ok}
use Rattle.record.specs.Layout.{record_octets, config_octets, lost_part, run_part, pending_part, pairs_room, rf_part, selected_part, hand_part, host_run_part, controller_run_part, host_side_size, counts_part, host_place, hearing_place, controller_place, asking_place, endpoint_place, conns_place}
use Rattle.record.specs.Reading.{decode_of}

-- "over 16 packets a wire, 8 a store"; "a place .. that isn't there": a head that is no slot of so many
abbrev pub ring_ok : ℕ → Ring → Bool
ring_ok slots k = leb k.count slots && ltb k.head slots

-- "1,024 octets a message": in hand; "a place": a position past its end
unfoldable pub hand_ok : Hand → Bool
hand_ok h = leb h.len message_size && leb h.at h.len

-- "a place": the last Conn ID given, 0 for none
unfoldable pub given_ok : ℕ → Bool
given_ok id = eqb id 0 || (leb 2 id && leb id 5)

-- at the host: "the grant held"; "open connection's payload"; a message in hand, and one in reassembly
unfoldable pub host_side_ok : HostSide → Bool
host_side_ok h = leb h.held h.grant && (not h.opened || leb 1 h.payload) && hand_ok h.hand && leb h.run.len message_size

-- at the controller: "the grant .. owed"; "8 a store"; a message in reassembly
unfoldable pub controller_side_ok : ControllerSide → Bool
controller_side_ok k = leb k.owed k.grant && ring_ok store_slots k.store && leb k.run.len message_size

unfoldable pub counts_ok : Counts → Bool
counts_ok c = host_side_ok c.host && controller_side_ok c.controller

abbrev pub counts_ok_in : List Counts → ℕ → Bool
counts_ok_in l p = counts_ok (get_or l p closed_counts)

-- each of the five connections
unfoldable pub conns_ok : List Counts → Bool
conns_ok l = counts_ok_in l 0 && counts_ok_in l 1 && counts_ok_in l 2 && counts_ok_in l 3 && counts_ok_in l 4

-- "host's control size"; control runs of 255 octets, for which the area has room; "8 pairs"; "a profile .. outside its limits"
unfoldable pub ends_ok : Ends → Bool
ends_ok e =
    leb least_size e.host.size
    && leb e.hearing.run.len control_size
    && leb e.asking.run.len control_size
    && leb e.controller.pairs.count pairs_room
    && given_ok e.controller.given
    && profile_ok e.profile
    && hand_ok e.endpoint
    && conns_ok e.conns

-- the numbers of a record
unfoldable pub record_ok : Record → Bool
record_ok r = ring_ok wire_slots r.down && ring_ok wire_slots r.up && ends_ok r.ends

-- "a .. state that isn't there": an octet of yes or no is 0 or 1
abbrev pub flag_ok : Octets → ℕ → Bool
flag_ok s at = leb (get_or s at 0) 1

-- the RF state, and the selection where it has one
unfoldable pub rf_known : ℕ → ℕ → Bool
rf_known tag selected = leb tag 6 && (not (eqb tag 3) || leb selected 1)

-- of a connection: open at the host, a message in hand, its run lost; open at the controller, its run lost
unfoldable pub conn_known : Octets → ℕ → Bool
conn_known s at =
    flag_ok s at && flag_ok s (at + hand_part) && flag_ok s (at + (host_run_part + lost_part))
    && flag_ok s (at + host_side_size) && flag_ok s (at + (host_side_size + controller_run_part + lost_part))

unfoldable pub conns_known : Octets → ℕ → Bool
conns_known s at =
    conn_known s at && conn_known s (at + counts_part 1) && conn_known s (at + counts_part 2) && conn_known s (at + counts_part 3)
    && conn_known s (at + counts_part 4)

-- the unanswered command, the controller's phase, both control runs lost or not, the endpoint's message, the RF state, the connections
unfoldable pub tags_ok : Octets → Bool
tags_ok s =
    flag_ok s (host_place + pending_part)
    && leb (get_or s controller_place 0) 2
    && flag_ok s (hearing_place + run_part + lost_part)
    && flag_ok s (asking_place + run_part + lost_part)
    && flag_ok s endpoint_place
    && rf_known (get_or s (controller_place + rf_part) 0) (get_or s (controller_place + selected_part) 0)
    && conns_known s conns_place

-- row 1 does not apply to the area's record, with the configuration behind it: values that a set leaves
unfoldable pub judge_of : Octets → Bool
judge_of area = tags_ok (record_octets area) && record_ok (decode_of area) && parameters_ok (config_octets area)
