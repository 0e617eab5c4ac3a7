-- The record that octets say. In each definition s is the record's 512 octets and at is where the part stands in them.
-- Assumes nothing.
use Rattle.std.specs.Prelude.{ℕ, ◌+◌, ◌*◌, List, [], ◌∷◌, get_or, eqb, Option, Some, None}
use Rattle.octets.specs.Octets.{Octets, pick}
use Rattle.record.specs.Kinds.{Profile, Pair, Rf, Pairs, Progress, ControlRun, Phase, Controller, Asked, Host, Hand, Ring, HostSide, ControllerSide, Counts, Ends, Record}
use Rattle.record.specs.Kinds.rf.{Idle, Discovery, W4AllDiscoveries, W4HostSelect, PollActive, ListenActive, ListenSleep}
use Rattle.record.specs.Kinds.phase.{Cold, Reset, Ready}
use Rattle.state.specs.Profile.{terms_in}
use Rattle.record.specs.Layout.{record_octets, profile_place, host_place, hearing_place, controller_place, asking_place, endpoint_place, conns_place, down_place, up_place, lost_part, run_part, pending_part, rf_part, selected_part, pairs_part, hand_part, host_run_part, store_part, controller_run_part, host_side_size, counts_part}

-- ---- numbers

unfoldable pub wide_at : Octets → ℕ → ℕ
wide_at s at = get_or s at 0 * 256 + get_or s (at + 1) 0

-- ---- cases: a tag that is none of them reads as the first

unfoldable pub pending_of : ℕ → ℕ → ℕ → ℕ → Option Asked
pending_of tag g o a = pick (eqb tag 1) (Some (record { gid = g; oid = o; aim = a })) None

unfoldable pub phase_of : ℕ → Phase
phase_of tag = pick (eqb tag 1) Reset (pick (eqb tag 2) Ready Cold)

unfoldable pub rf_of : ℕ → ℕ → ℕ → ℕ → Rf
rf_of tag a b c =
    pick (eqb tag 1) Discovery
    (pick (eqb tag 2) W4AllDiscoveries
    (pick (eqb tag 3) (pick (eqb a 1) (W4HostSelect (Some (record { id = b; protocol = c }))) (W4HostSelect None))
    (pick (eqb tag 4) (PollActive (record { id = a; protocol = b; mode = c }))
    (pick (eqb tag 5) (ListenActive (record { id = a; protocol = b; mode = c }))
    (pick (eqb tag 6) ListenSleep Idle)))))

-- ---- parts of both ends

unfoldable pub profile_at : Octets → ℕ → Profile
profile_at s at =
    record {
      control = get_or s at 0;
      two = terms_in s (at + 1);
      three = terms_in s (at + 3);
      four = terms_in s (at + 5);
      five = terms_in s (at + 7);
      fixed = terms_in s (at + 9);
    }

unfoldable pub progress_at : Octets → ℕ → Progress
progress_at s at = record { len = wide_at s at; lost = eqb (get_or s (at + lost_part) 0) 1 }

unfoldable pub control_run_at : Octets → ℕ → ControlRun
control_run_at s at = record { mt = get_or s at 0; gid = get_or s (at + 1) 0; oid = get_or s (at + 2) 0; run = progress_at s (at + run_part) }

unfoldable pub hand_at : Octets → ℕ → Hand
hand_at s at = record { full = eqb (get_or s at 0) 1; len = wide_at s (at + 1); at = wide_at s (at + 3) }

unfoldable pub ring_at : Octets → ℕ → Ring
ring_at s at = record { head = get_or s at 0; count = get_or s (at + 1) 0 }

-- ---- the two ends

unfoldable pub host_at : Octets → ℕ → Host
host_at s at = record { size = get_or s at 0; pending = pending_of (get_or s (at + pending_part) 0) (get_or s (at + 2) 0) (get_or s (at + 3) 0) (get_or s (at + 4) 0) }

unfoldable pub pair_at : Octets → ℕ → Pair
pair_at s at = record { id = get_or s at 0; protocol = get_or s (at + 1) 0 }

unfoldable pub pairs_at : Octets → ℕ → Pairs
pairs_at s at =
    record {
      list =
          pair_at s at ∷ pair_at s (at + 2) ∷ pair_at s (at + 4) ∷ pair_at s (at + 6)
          ∷ pair_at s (at + 8) ∷ pair_at s (at + 10) ∷ pair_at s (at + 12) ∷ pair_at s (at + 14) ∷ [];
      count = get_or s (at + 16) 0;
    }

unfoldable pub controller_at : Octets → ℕ → Controller
controller_at s at =
    record {
      phase = phase_of (get_or s at 0);
      given = get_or s (at + 1) 0;
      rf = rf_of (get_or s (at + rf_part) 0) (get_or s (at + selected_part) 0) (get_or s (at + 4) 0) (get_or s (at + 5) 0);
      pairs = pairs_at s (at + pairs_part);
    }

-- ---- connections

unfoldable pub host_side_at : Octets → ℕ → HostSide
host_side_at s at =
    record {
      opened = eqb (get_or s at 0) 1;
      payload = get_or s (at + 1) 0;
      grant = get_or s (at + 2) 0;
      held = get_or s (at + 3) 0;
      hand = hand_at s (at + hand_part);
      run = progress_at s (at + host_run_part);
    }

unfoldable pub controller_side_at : Octets → ℕ → ControllerSide
controller_side_at s at =
    record {
      opened = eqb (get_or s at 0) 1;
      grant = get_or s (at + 1) 0;
      owed = get_or s (at + 2) 0;
      store = ring_at s (at + store_part);
      run = progress_at s (at + controller_run_part);
    }

unfoldable pub counts_at : Octets → ℕ → Counts
counts_at s at = record { host = host_side_at s at; controller = controller_side_at s (at + host_side_size) }

unfoldable pub conns_at : Octets → ℕ → List Counts
conns_at s at = counts_at s at ∷ counts_at s (at + counts_part 1) ∷ counts_at s (at + counts_part 2) ∷ counts_at s (at + counts_part 3) ∷ counts_at s (at + counts_part 4) ∷ []

-- ---- the record

unfoldable pub ends_of : Octets → Ends
ends_of s =
    record {
      profile = profile_at s profile_place;
      host = host_at s host_place;
      hearing = control_run_at s hearing_place;
      controller = controller_at s controller_place;
      asking = control_run_at s asking_place;
      endpoint = hand_at s endpoint_place;
      conns = conns_at s conns_place;
    }

unfoldable pub record_of : Octets → Record
record_of s = record { ends = ends_of s; down = ring_at s down_place; up = ring_at s up_place }

-- the record of an area
unfoldable pub decode_of : Octets → Record
decode_of area = record_of (record_octets area)
