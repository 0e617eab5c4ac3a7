-- The air (document 01, "The air"; 003, 5.2): the octets of an event, whether it is taken, its notification and the state after.
-- Assumes nothing.
use Rattle.std.specs.Prelude.{ℕ, Bool, ◌&&◌, ◌||◌, List, length, get_or, drop, eqb, leb, Option, Some, None, is_none}
use Rattle.octets.specs.Octets.{Octets, pick}
use Rattle.state.specs.Names.{gid_core, gid_rf, oid_generic_error, oid_discover, oid_activated, oid_deactivate, more_follow, to_sleep, to_discovery, endpoint_request, link_loss}
use Rattle.air.specs.Kinds.{Hand, Profile, Pair, Pairs, Activation, Rf, Controller, Counts, Event, Listing, Aired}
use Rattle.air.specs.Kinds.rf.{Idle, Discovery, W4AllDiscoveries, W4HostSelect, PollActive, ListenActive, ListenSleep}
use Rattle.air.specs.Kinds.event.{Found, Poll, Listen, Failed, Sleeps, LinkLost, Releases, Endpoint}
use Rattle.air.specs.Kinds.listing.{Keeps, Starts, Adds}
use Rattle.air.specs.Kinds.aired.{Goes, Activates, Ends, Speaks}
use Rattle.state.specs.Conn.{terms_of, controller_opened_at, controller_closed_at, empty, hand_with}
use Rattle.state.specs.Radio.{is_listening, is_asleep, is_active, polls, listens, id_ok, pair_of, same_pair, listed, started_with, added_to}
use Rattle.messages.specs.Layout.{Message, nothing, generic_error_ntf, discover_ntf, activated_ntf, deactivate_ntf}

-- ---- the octets of an event, kind first; what is outside its limits is none (refusal 3)

-- ID, protocol and mode
abbrev pub target_of : Octets → Activation
target_of m = record { id = get_or m 1 0; protocol = get_or m 2 0; mode = get_or m 3 0 }

-- 1: ID, protocol, mode, type, up to 32 parameter octets
unfoldable pub found_in : Octets → Option Event
found_in m =
    pick (leb 5 (length m) && leb (length m) 37 && id_ok (get_or m 1 0) && polls (get_or m 3 0) && leb (get_or m 4 0) more_follow)
    (Some (Found (target_of m) (get_or m 4 0))) None

-- 2 and 3: ID, protocol, a mode of the kind, parameters
abbrev pub active_in : Octets → Bool → Event → Option Event
active_in m in_mode e = pick (leb 4 (length m) && leb (length m) 36 && id_ok (get_or m 1 0) && in_mode) (Some e) None

-- 2: a polling mode
unfoldable pub poll_in : Octets → Option Event
poll_in m = active_in m (polls (get_or m 3 0)) (Poll (target_of m))

-- 3: a listening mode
unfoldable pub listen_in : Octets → Option Event
listen_in m = active_in m (listens (get_or m 3 0)) (Listen (target_of m))

-- 4 to 7: the kind alone
abbrev pub alone : Octets → Event → Option Event
alone m e = pick (eqb (length m) 1) (Some e) None

-- 8: a message of up to 1,024 octets
abbrev pub spoken_in : Octets → Option Event
spoken_in m = pick (leb (length m) 1025) (Some Endpoint) None

unfoldable pub event_of : Octets → Option Event
event_of m =
    pick (eqb (get_or m 0 0) 1) (found_in m)
    (pick (eqb (get_or m 0 0) 2) (poll_in m)
    (pick (eqb (get_or m 0 0) 3) (listen_in m)
    (pick (eqb (get_or m 0 0) 4) (alone m Failed)
    (pick (eqb (get_or m 0 0) 5) (alone m Sleeps)
    (pick (eqb (get_or m 0 0) 6) (alone m LinkLost)
    (pick (eqb (get_or m 0 0) 7) (alone m Releases)
    (pick (eqb (get_or m 0 0) 8) (spoken_in m) None)))))))

-- the kind of an event, 1 to 8; 0 for octets that are none
abbrev pub kind_of : Option Event → ℕ
kind_of None = 0
kind_of (Some (Found a type)) = 1
kind_of (Some (Poll a)) = 2
kind_of (Some (Listen a)) = 3
kind_of (Some Failed) = 4
kind_of (Some Sleeps) = 5
kind_of (Some LinkLost) = 6
kind_of (Some Releases) = 7
kind_of (Some Endpoint) = 8

-- ---- whether the state takes it (else refusal 11), and what it then does

-- a repeated pair, an eighth with type 2, or a list with no place left
abbrev pub no_room : Pairs → Pair → ℕ → Bool
no_room ps p type = listed ps p || leb 8 ps.count || (eqb type more_follow && leb 7 ps.count)

-- more follow, or this was the last: W4_HOST_SELECT is entered with no selection
abbrev pub found_to : ℕ → Rf
found_to type = pick (eqb type more_follow) W4AllDiscoveries (W4HostSelect None)

unfoldable pub found_by : Rf → Pairs → Activation → ℕ → Option Aired
found_by Idle ps a type = None
found_by Discovery ps a type = pick (eqb type more_follow) (Some (Goes W4AllDiscoveries (Starts (pair_of a)))) None
found_by W4AllDiscoveries ps a type = pick (no_room ps (pair_of a) type) None (Some (Goes (found_to type) (Adds (pair_of a))))
found_by (W4HostSelect s) ps a type = None
found_by (PollActive b) ps a type = None
found_by (ListenActive b) ps a type = None
found_by ListenSleep ps a type = None

-- from W4_HOST_SELECT an activation is that of the selection
unfoldable pub poll_by : Rf → Activation → Option Aired
poll_by Idle a = None
poll_by Discovery a = Some (Activates (PollActive a) (Starts (pair_of a)))
poll_by W4AllDiscoveries a = None
poll_by (W4HostSelect None) a = None
poll_by (W4HostSelect (Some p)) a = pick (same_pair p (pair_of a)) (Some (Activates (PollActive a) Keeps)) None
poll_by (PollActive b) a = None
poll_by (ListenActive b) a = None
poll_by ListenSleep a = None

unfoldable pub listen_by : Rf → Activation → Option Aired
listen_by Idle a = None
listen_by Discovery a = Some (Activates (ListenActive a) Keeps)
listen_by W4AllDiscoveries a = None
listen_by (W4HostSelect s) a = None
listen_by (PollActive b) a = None
listen_by (ListenActive b) a = None
listen_by ListenSleep a = Some (Activates (ListenActive a) Keeps)

-- the selection ends
unfoldable pub failed_by : Rf → Option Aired
failed_by Idle = None
failed_by Discovery = None
failed_by W4AllDiscoveries = None
failed_by (W4HostSelect None) = None
failed_by (W4HostSelect (Some p)) = Some (Goes (W4HostSelect None) Keeps)
failed_by (PollActive b) = None
failed_by (ListenActive b) = None
failed_by ListenSleep = None

unfoldable pub aired_by : Rf → Pairs → Option Event → Option Aired
aired_by rf ps None = None
aired_by rf ps (Some (Found a type)) = found_by rf ps a type
aired_by rf ps (Some (Poll a)) = poll_by rf a
aired_by rf ps (Some (Listen a)) = listen_by rf a
aired_by rf ps (Some Failed) = failed_by rf
aired_by rf ps (Some Sleeps) = pick (is_listening rf) (Some (Ends ListenSleep)) None
aired_by rf ps (Some LinkLost) = pick (is_listening rf || is_asleep rf) (Some (Ends Discovery)) None
aired_by rf ps (Some Releases) = pick (is_listening rf) (Some (Ends Discovery)) None
aired_by rf ps (Some Endpoint) = pick (is_active rf) (Some Speaks) None

abbrev pub is_refused : Option Aired → Bool
is_refused a = is_none a

-- ---- the notification

unfoldable pub air_message : Profile → Option Event → Octets → Message
air_message p None m = nothing
air_message p (Some (Found a type)) m = record { gid = gid_rf; oid = oid_discover; payload = discover_ntf a type (drop 5 m) }
air_message p (Some (Poll a)) m = record { gid = gid_rf; oid = oid_activated; payload = activated_ntf a (terms_of p 0) (drop 4 m) }
air_message p (Some (Listen a)) m = record { gid = gid_rf; oid = oid_activated; payload = activated_ntf a (terms_of p 0) (drop 4 m) }
air_message p (Some Failed) m = record { gid = gid_core; oid = oid_generic_error; payload = generic_error_ntf }
air_message p (Some Sleeps) m = record { gid = gid_rf; oid = oid_deactivate; payload = deactivate_ntf to_sleep endpoint_request }
air_message p (Some LinkLost) m = record { gid = gid_rf; oid = oid_deactivate; payload = deactivate_ntf to_discovery link_loss }
air_message p (Some Releases) m = record { gid = gid_rf; oid = oid_deactivate; payload = deactivate_ntf to_discovery endpoint_request }
air_message p (Some Endpoint) m = nothing

-- ---- the controller after it

abbrev pub listed_after : Pairs → Listing → Pairs
listed_after ps Keeps = ps
listed_after ps (Starts p) = started_with p
listed_after ps (Adds p) = added_to ps p

abbrev pub moved_to : Controller → Rf → Pairs → Controller
moved_to k rf ps = record { phase = k.phase; given = k.given; rf = rf; pairs = ps }

unfoldable pub controller_aired : Controller → Option Aired → Controller
controller_aired k None = k
controller_aired k (Some (Goes rf l)) = moved_to k rf (listed_after k.pairs l)
controller_aired k (Some (Activates rf l)) = moved_to k rf (listed_after k.pairs l)
controller_aired k (Some (Ends rf)) = moved_to k rf k.pairs
controller_aired k (Some Speaks) = k

-- connection 0 opens with the activation and closes with the deactivation
unfoldable pub conns_aired : Profile → List Counts → Option Aired → List Counts
conns_aired p conns None = conns
conns_aired p conns (Some (Goes rf l)) = conns
conns_aired p conns (Some (Activates rf l)) = controller_opened_at conns 0 (terms_of p 0)
conns_aired p conns (Some (Ends rf)) = controller_closed_at conns 0
conns_aired p conns (Some Speaks) = conns

-- the endpoint's message in hand, n being the octets of the one that an event of kind 8 brings; connection 0 opens and closes with none
unfoldable pub endpoint_aired : Hand → Option Aired → ℕ → Hand
endpoint_aired h None n = h
endpoint_aired h (Some (Goes rf l)) n = h
endpoint_aired h (Some (Activates rf l)) n = empty
endpoint_aired h (Some (Ends rf)) n = empty
endpoint_aired h (Some Speaks) n = hand_with n
