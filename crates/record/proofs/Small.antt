-- A record whose numbers are octets is written as octets, and is what an area of octets has.
-- Assumes nothing.
use Prim.Native.Nat.{ℕ, zero, suc, ◌+◌, ◌≤◌, ◌<◌}
use native.Mathlib.Omega.{arith}
use mathlib.Core.Bool.{Bool, true, false}
use mathlib.Core.List.{[], ◌∷◌, ◌++◌}
use lib.ListN.{get_or}
use lib.Dec.{eqb}
use Rattle.std.specs.Prelude.{Option, Some, None}
use Rattle.octets.specs.Octets.{Octets, cut}
use Rattle.octets.specs.Octal.{Octal, octal_nil, octal_cons}
use Rattle.octets.proofs.Octal.{octal_at, octal_append, octal_left, octal_right, octal_cut}
use Rattle.record.specs.Kinds.{Profile, Pair, Phase, Asked, Rf, Progress, Controller, Hand, Ring, Counts, Record}
use Rattle.record.specs.Kinds.rf.{Idle, Discovery, W4AllDiscoveries, W4HostSelect, PollActive, ListenActive, ListenSleep}
use Rattle.record.specs.Kinds.phase.{Cold, Reset, Ready}
use Rattle.state.specs.Conn.{terms_of, closed_counts}
use Rattle.state.specs.Radio.{no_pairs}
use Rattle.state.proofs.Chains.{on}
use Rattle.state.proofs.SmallVerdicts.{Bare, SmallTerms}
use Rattle.area.specs.Map.{record_at, record_room, places}
use Rattle.record.specs.Layout.{record_octets, rf_part, selected_part, pairs_part, pending_part, run_part, host_side_size, counts_part, profile_place, host_place, hearing_place, controller_place, asking_place, conns_place, high, low, bit}
use Rattle.record.specs.Reading.{pending_of, phase_of, rf_of, profile_at, progress_at, control_run_at, host_at, pair_at, pairs_at, controller_at, host_side_at, controller_side_at, counts_at, conns_at, ends_of, record_of, decode_of}
use Rattle.record.specs.Writing.{pending_octets, phase_octet, rf_octets, profile_octets, progress_octets, control_run_octets, hand_octets, ring_octets, host_octets, pairs_octets, controller_octets, counts_octets, conns_octets, front_octets, middle_octets, wires_octets, encode_of}
use Rattle.record.specs.Fit.{Each}
use Rattle.record.specs.Small.{SmallCounts, Small}

-- ---- numbers, flags and what is made of them

high_small : (n : ℕ) → high n ≤ 255
high_small n = omega arith

low_small : (n : ℕ) → low n ≤ 255
low_small n = omega arith

bit_small : (b : Bool) → bit b ≤ 255
unfolding bit
bit_small true = omega arith
bit_small false = omega arith

pub octal_progress : (p : Progress) → Octal (progress_octets p)
octal_progress p = octal_cons (high_small p.len) (octal_cons (low_small p.len) (octal_cons (bit_small p.lost) octal_nil))

octal_hand : (h : Hand) → Octal (hand_octets h)
unfolding hand_octets
octal_hand h =
    octal_cons (bit_small h.full)
    (octal_cons (high_small h.len) (octal_cons (low_small h.len) (octal_cons (high_small h.at) (octal_cons (low_small h.at) octal_nil))))

octal_ring : (k : Ring) → Octal (ring_octets k)
unfolding ring_octets
octal_ring k = octal_cons (low_small k.head) (octal_cons (low_small k.count) octal_nil)

-- ---- one connection

octal_counts : (k : Counts) → SmallCounts k → Octal (counts_octets k)
unfolding counts_octets
octal_counts k s =
    octal_append
    (octal_cons (bit_small k.host.opened)
    (octal_cons s.payload
    (octal_cons s.host_grant_law
    (octal_cons s.held (octal_append (octal_hand k.host.hand) (octal_progress k.host.run))))))
    (octal_cons (bit_small k.controller.opened)
    (octal_cons s.grant
    (octal_cons s.owed (octal_append (octal_ring k.controller.store) (octal_progress k.controller.run)))))

-- ---- the record

pub octal_encode : (r : Record) → Small r → Octal (encode_of r)
unfolding encode_of front_octets middle_octets conns_octets wires_octets
octal_encode r s =
    let o = s.own in
    octal_append
    (octal_append (octal_append (octal_append (octal_append (octal_append o.profile o.host) o.hearing) o.controller) (octal_append o.asking (octal_hand r.ends.endpoint)))
    (octal_append (octal_append (octal_append (octal_append (at 0 (omega arith)) (at 1 (omega arith))) (at 2 (omega arith))) (at 3 (omega arith))) (at 4 (omega arith))))
    (octal_append (octal_ring r.down) (octal_ring r.up))
  where
    at : (p : ℕ) → p < places → Octal (counts_octets (get_or r.ends.conns p closed_counts))
    at p l = octal_counts (get_or r.ends.conns p closed_counts) (s.conns p l)

-- ---- the record of an area of octets

phase_small : (p : Phase) → phase_octet p ≤ 255
unfolding phase_octet
phase_small Cold = omega arith
phase_small Reset = omega arith
phase_small Ready = omega arith

four : (w x y z : ℕ) → w ≤ 255 → x ≤ 255 → y ≤ 255 → z ≤ 255 → Octal (w ∷ x ∷ y ∷ z ∷ [])
four w x y z h i j k = octal_cons h (octal_cons i (octal_cons j (octal_cons k octal_nil)))

-- a case with no octet of its own
pub case : (n : ℕ) → n ≤ 255 → Octal (n ∷ 0 ∷ 0 ∷ 0 ∷ [])
case n h = four n 0 0 0 h (omega arith) (omega arith) (omega arith)

abbrev RfSmall : Rf → Type 0
RfSmall rf = Octal (rf_octets rf)

rf_small : (t a b c : ℕ) → a ≤ 255 → b ≤ 255 → c ≤ 255 → RfSmall (rf_of t a b c)
unfolding rf_of rf_octets
rf_small t a b c x y z =
    on RfSmall (eqb t 1) (λ _. case 1 (omega arith))
    (λ _. on RfSmall (eqb t 2) (λ _. case 2 (omega arith))
    (λ _. on RfSmall (eqb t 3) (λ _. on RfSmall (eqb a 1) (λ _. four 3 1 b c (omega arith) (omega arith) y z) (λ _. case 3 (omega arith)))
    (λ _. on RfSmall (eqb t 4) (λ _. four 4 a b c (omega arith) x y z)
    (λ _. on RfSmall (eqb t 5) (λ _. four 5 a b c (omega arith) x y z)
    (λ _. on RfSmall (eqb t 6) (λ _. case 6 (omega arith)) (λ _. case 0 (omega arith)))))))

pending_small : (t g o a : ℕ) → g ≤ 255 → o ≤ 255 → a ≤ 255 → Octal (pending_octets (pending_of t g o a))
unfolding pending_of pending_octets
pending_small t g o a x y z = on (λ (p : Option Asked). Octal (pending_octets p)) (eqb t 1) (λ _. four 1 g o a (omega arith) x y z) (λ _. case 0 (omega arith))

module _ (s : Octets) (h : Octal s) where
  o : (i : ℕ) → get_or s i 0 ≤ 255
  o = octal_at h

  two : (k : ℕ) {l : Octets} → Octal l → Octal (get_or s k 0 ∷ get_or s (k + 1) 0 ∷ l)
  two k t = octal_cons (o k) (octal_cons (o (k + 1)) t)

  pairs_small : (at : ℕ) → Octal (pairs_octets (pairs_at s at))
  unfolding pairs_at pair_at pairs_octets
  pairs_small at =
      two at (two (at + 2) (two (at + 4) (two (at + 6) (two (at + 8) (two (at + 10) (two (at + 12) (two (at + 14) (octal_cons (low_small (get_or s (at + 16) 0)) octal_nil))))))))

  run_small : (at : ℕ) → Octal (control_run_octets (control_run_at s at))
  unfolding control_run_at control_run_octets
  run_small at = octal_cons (o at) (octal_cons (o (at + 1)) (octal_cons (o (at + 2)) (octal_progress (progress_at s (at + run_part)))))

  controller_small : (at : ℕ) → Octal (controller_octets (controller_at s at))
  unfolding controller_at controller_octets
  controller_small at =
      octal_append
      (octal_append (octal_cons (phase_small (phase_of (get_or s at 0))) (octal_cons (o (at + 1)) octal_nil))
      (rf_small (get_or s (at + rf_part) 0) (get_or s (at + selected_part) 0) (get_or s (at + 4) 0) (get_or s (at + 5) 0) (o (at + selected_part)) (o (at + 4)) (o (at + 5))))
      (pairs_small (at + pairs_part))

  profile_small : (at : ℕ) → Octal (profile_octets (profile_at s at))
  unfolding profile_at profile_octets
  profile_small at = octal_cons (o at) (two (at + 1) (two (at + 3) (two (at + 5) (two (at + 7) (two (at + 9) octal_nil)))))

  host_small : (at : ℕ) → Octal (host_octets (host_at s at))
  unfolding host_at host_octets
  host_small at = octal_cons (o at) (pending_small (get_or s (at + pending_part) 0) (get_or s (at + 2) 0) (get_or s (at + 3) 0) (get_or s (at + 4) 0) (o (at + 2)) (o (at + 3)) (o (at + 4)))

  counts_small : (at : ℕ) → SmallCounts (counts_at s at)
  unfolding counts_at host_side_at controller_side_at
  counts_small at = record { payload = o (at + 1); host_grant_law = o (at + 2); held = o (at + 3); grant = o (at + host_side_size + 1); owed = o (at + host_side_size + 2) }

  conns_small : (at : ℕ) → Each SmallCounts (conns_at s at)
  unfolding conns_at
  conns_small at zero h = counts_small at
  conns_small at (suc zero) h = counts_small (at + counts_part 1)
  conns_small at (suc (suc zero)) h = counts_small (at + counts_part 2)
  conns_small at (suc (suc (suc zero))) h = counts_small (at + counts_part 3)
  conns_small at (suc (suc (suc (suc zero)))) h = counts_small (at + counts_part 4)
  conns_small at (suc (suc (suc (suc (suc n))))) h = absurd (omega arith)

pub small_decode : (a : Octets) → Octal a → Small (decode_of a)
unfolding decode_of record_of ends_of record_octets
small_decode a h =
    let s : Octets = cut record_at record_room a in
    let o : Octal s = octal_cut record_at record_room h in
    record {
      own =
          record {
            profile = profile_small s o profile_place;
            host = host_small s o host_place;
            hearing = run_small s o hearing_place;
            controller = controller_small s o controller_place;
            asking = run_small s o asking_place;
          };
      conns = conns_small s o conns_place;
    }

-- ---- the parts of what is octets

pub profile_control : (p : Profile) → Octal (profile_octets p) → p.control ≤ 255
unfolding profile_octets
profile_control p o = octal_at o 0

pub profile_terms : (p : Profile) → Octal (profile_octets p) → (c : ℕ) → SmallTerms (terms_of p c)
unfolding profile_octets terms_of
profile_terms p o c =
    on SmallTerms (eqb c 0) (λ _. record { payload = octal_at o 9; credits = octal_at o 10 })
    (λ _. on SmallTerms (eqb c 2) (λ _. record { payload = octal_at o 1; credits = octal_at o 2 })
    (λ _. on SmallTerms (eqb c 3) (λ _. record { payload = octal_at o 3; credits = octal_at o 4 })
    (λ _. on SmallTerms (eqb c 4) (λ _. record { payload = octal_at o 5; credits = octal_at o 6 }) (λ _. record { payload = octal_at o 7; credits = octal_at o 8 }))))

-- of the controller, apart from its phase
pub record SmallController (k : Controller) : Type 0 where
  pub given : k.given ≤ 255
  pub rf : Octal (rf_octets k.rf)
  pub pairs : Octal (pairs_octets k.pairs)

pub controller_parts : (k : Controller) → Octal (controller_octets k) → SmallController k
unfolding controller_octets
controller_parts k o =
    let front : Octets = phase_octet k.phase ∷ k.given ∷ [] in
    let both = octal_left (front ++ rf_octets k.rf) (pairs_octets k.pairs) o in
    record { given = octal_at both 1; rf = octal_right front (rf_octets k.rf) both; pairs = octal_right (front ++ rf_octets k.rf) (pairs_octets k.pairs) o }

pub controller_octal : (k : Controller) → SmallController k → Octal (controller_octets k)
unfolding controller_octets
controller_octal k s = octal_append (octal_append (octal_cons (phase_small k.phase) (octal_cons s.given octal_nil)) s.rf) s.pairs

-- an RF state that carries no octet, and one with a selection
pub bare_octal : (rf : Rf) → Bare rf → Octal (rf_octets rf)
unfolding rf_octets
bare_octal Idle b = case 0 (omega arith)
bare_octal Discovery b = case 1 (omega arith)
bare_octal W4AllDiscoveries b = case 2 (omega arith)
bare_octal (W4HostSelect None) b = case 3 (omega arith)
bare_octal (W4HostSelect (Some p)) b = absurd b
bare_octal (PollActive a) b = absurd b
bare_octal (ListenActive a) b = absurd b
bare_octal ListenSleep b = case 6 (omega arith)

pub chosen_octal : (p : Pair) → p.id ≤ 255 → p.protocol ≤ 255 → Octal (rf_octets (W4HostSelect (Some p)))
unfolding rf_octets
chosen_octal p h i = four 3 1 p.id p.protocol (omega arith) (omega arith) h i

pub none_octal : Octal (pairs_octets no_pairs)
unfolding pairs_octets
none_octal = zeros (zeros (zeros (zeros (octal_cons {x = 0} (omega arith) octal_nil))))
  where
    zeros : {l : Octets} → Octal l → Octal (0 ∷ 0 ∷ 0 ∷ 0 ∷ l)
    zeros t = octal_append (case 0 (omega arith)) t
