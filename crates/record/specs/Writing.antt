-- The octets of a record, in the order of Layout. Octets that a case does not use are 0.
-- Assumes nothing.
use Rattle.std.specs.Prelude.{ℕ, List, [], ◌∷◌, ◌++◌, get_or, Option, Some, None}
use Rattle.octets.specs.Octets.{Octets}
use Rattle.record.specs.Kinds.{Profile, Pair, Rf, Pairs, Progress, ControlRun, Phase, Controller, Asked, Host, Hand, Ring, HostSide, ControllerSide, Counts, Ends, Record}
use Rattle.record.specs.Kinds.rf.{Idle, Discovery, W4AllDiscoveries, W4HostSelect, PollActive, ListenActive, ListenSleep}
use Rattle.record.specs.Kinds.phase.{Cold, Reset, Ready}
use Rattle.state.specs.Conn.{closed_counts}
use Rattle.record.specs.Layout.{high, low, bit}

-- ---- cases

unfoldable pub pending_octets : Option Asked → Octets
pending_octets None = 0 ∷ 0 ∷ 0 ∷ 0 ∷ []
pending_octets (Some a) = 1 ∷ a.gid ∷ a.oid ∷ a.aim ∷ []

unfoldable pub phase_octet : Phase → ℕ
phase_octet Cold = 0
phase_octet Reset = 1
phase_octet Ready = 2

unfoldable pub rf_octets : Rf → Octets
rf_octets Idle = 0 ∷ 0 ∷ 0 ∷ 0 ∷ []
rf_octets Discovery = 1 ∷ 0 ∷ 0 ∷ 0 ∷ []
rf_octets W4AllDiscoveries = 2 ∷ 0 ∷ 0 ∷ 0 ∷ []
rf_octets (W4HostSelect None) = 3 ∷ 0 ∷ 0 ∷ 0 ∷ []
rf_octets (W4HostSelect (Some p)) = 3 ∷ 1 ∷ p.id ∷ p.protocol ∷ []
rf_octets (PollActive a) = 4 ∷ a.id ∷ a.protocol ∷ a.mode ∷ []
rf_octets (ListenActive a) = 5 ∷ a.id ∷ a.protocol ∷ a.mode ∷ []
rf_octets ListenSleep = 6 ∷ 0 ∷ 0 ∷ 0 ∷ []

-- ---- parts of both ends

-- of both forms that fresh takes the record has the longer
unfoldable pub profile_octets : Profile → Octets
profile_octets p =
    p.control ∷ p.two.payload ∷ p.two.credits ∷ p.three.payload ∷ p.three.credits ∷ p.four.payload ∷ p.four.credits
    ∷ p.five.payload ∷ p.five.credits ∷ p.fixed.payload ∷ p.fixed.credits ∷ []

abbrev pub progress_octets : Progress → Octets
progress_octets p = high p.len ∷ low p.len ∷ bit p.lost ∷ []

unfoldable pub control_run_octets : ControlRun → Octets
control_run_octets r = r.mt ∷ r.gid ∷ r.oid ∷ progress_octets r.run

unfoldable pub hand_octets : Hand → Octets
hand_octets h = bit h.full ∷ high h.len ∷ low h.len ∷ high h.at ∷ low h.at ∷ []

unfoldable pub ring_octets : Ring → Octets
ring_octets k = low k.head ∷ low k.count ∷ []

-- ---- the two ends

unfoldable pub host_octets : Host → Octets
host_octets h = h.size ∷ pending_octets h.pending

-- a pair past the list's end; no list of the record is that short
abbrev pub no_pair : Pair
no_pair = record { id = 0; protocol = 0 }

abbrev pub pair_octets : List Pair → ℕ → Octets
pair_octets l i = (get_or l i no_pair).id ∷ (get_or l i no_pair).protocol ∷ []

unfoldable pub pairs_octets : Pairs → Octets
pairs_octets k =
    pair_octets k.list 0 ++ pair_octets k.list 1 ++ pair_octets k.list 2 ++ pair_octets k.list 3
    ++ pair_octets k.list 4 ++ pair_octets k.list 5 ++ pair_octets k.list 6 ++ pair_octets k.list 7
    ++ (low k.count ∷ [])

unfoldable pub controller_octets : Controller → Octets
controller_octets k = (phase_octet k.phase ∷ k.given ∷ []) ++ rf_octets k.rf ++ pairs_octets k.pairs

-- ---- connections

abbrev pub host_side_octets : HostSide → Octets
host_side_octets h = bit h.opened ∷ h.payload ∷ h.grant ∷ h.held ∷ (hand_octets h.hand ++ progress_octets h.run)

abbrev pub controller_side_octets : ControllerSide → Octets
controller_side_octets k = bit k.opened ∷ k.grant ∷ k.owed ∷ (ring_octets k.store ++ progress_octets k.run)

unfoldable pub counts_octets : Counts → Octets
counts_octets c = host_side_octets c.host ++ controller_side_octets c.controller

abbrev pub counts_in : List Counts → ℕ → Octets
counts_in l p = counts_octets (get_or l p closed_counts)

unfoldable pub conns_octets : List Counts → Octets
conns_octets l = counts_in l 0 ++ counts_in l 1 ++ counts_in l 2 ++ counts_in l 3 ++ counts_in l 4

-- ---- the record

-- the profile, the host and what it hears
unfoldable pub front_octets : Ends → Octets
front_octets e = profile_octets e.profile ++ host_octets e.host ++ control_run_octets e.hearing

-- what the controller is asked, and the endpoint's message
unfoldable pub middle_octets : Ends → Octets
middle_octets e = control_run_octets e.asking ++ hand_octets e.endpoint

unfoldable pub wires_octets : Record → Octets
wires_octets r = ring_octets r.down ++ ring_octets r.up

unfoldable pub encode_of : Record → Octets
encode_of r =
    front_octets r.ends ++ controller_octets r.ends.controller ++ middle_octets r.ends
    ++ conns_octets r.ends.conns ++ wires_octets r
