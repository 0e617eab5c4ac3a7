-- The octets of a record, part after part: how many they are, and that stores one after another write them all.
-- Assumes nothing.
use Prim.Native.Nat.{ℕ, zero, suc, ◌+◌}
use native.Mathlib.Omega.{arith}
use mathlib.Core.Path.{◌≡◌, refl, sym, ap, ◌∙◌}
use mathlib.Core.List.{List, [], ◌∷◌, ◌++◌}
use lib.ListN.{length, length-append}
use Rattle.std.specs.Prelude.{Option, Some, None}
use Rattle.octets.specs.Octets.{Octets, splice}
use Rattle.octets.proofs.Octets.{splice_next}
use Rattle.record.specs.Kinds.{Profile, Rf, Pairs, ControlRun, Controller, Asked, Host, Counts, Ends, Record}
use Rattle.record.specs.Kinds.rf.{Idle, Discovery, W4AllDiscoveries, W4HostSelect, PollActive, ListenActive, ListenSleep}
use Rattle.area.specs.Map.{record_at}
use Rattle.record.specs.Layout.{profile_size, control_run_size, host_size, rf_part, pairs_part, pairs_size, controller_size, counts_size, counts_part, conns_size, controller_place, asking_place, conns_place, down_place, record_end, front_size, middle_size, wires_size}
use Rattle.record.specs.Writing.{pending_octets, phase_octet, rf_octets, profile_octets, control_run_octets, hand_octets, ring_octets, host_octets, pairs_octets, controller_octets, counts_octets, counts_in, conns_octets, front_octets, middle_octets, wires_octets, encode_of}

-- ---- lengths

length_profile : (p : Profile) → length (profile_octets p) ≡ profile_size
unfolding profile_octets
length_profile p = refl

pub length_pending : (p : Option Asked) → length (pending_octets p) ≡ 4
unfolding pending_octets
length_pending None = refl
length_pending (Some a) = refl

length_host : (h : Host) → length (host_octets h) ≡ host_size
unfolding host_octets
length_host h = rw (length_pending h.pending)

length_run : (r : ControlRun) → length (control_run_octets r) ≡ control_run_size
unfolding control_run_octets
length_run r = refl

pub length_rf : (x : Rf) → length (rf_octets x) ≡ 4
unfolding rf_octets
length_rf Idle = refl
length_rf Discovery = refl
length_rf W4AllDiscoveries = refl
length_rf (W4HostSelect None) = refl
length_rf (W4HostSelect (Some p)) = refl
length_rf (PollActive a) = refl
length_rf (ListenActive a) = refl
length_rf ListenSleep = refl

length_pairs : (k : Pairs) → length (pairs_octets k) ≡ pairs_size
unfolding pairs_octets
length_pairs k = refl

length_controller : (k : Controller) → length (controller_octets k) ≡ controller_size
unfolding controller_octets
length_controller k = simp (length-append, length_rf, length_pairs)

length_counts : (c : Counts) → length (counts_octets c) ≡ counts_size
unfolding counts_octets hand_octets ring_octets
length_counts c = refl

length_conns : (l : List Counts) → length (conns_octets l) ≡ conns_size
unfolding conns_octets
length_conns l = simp (length-append, length_counts)

length_front : (e : Ends) → length (front_octets e) ≡ front_size
unfolding front_octets
length_front e = simp (length-append, length_profile, length_host, length_run)

length_middle : (e : Ends) → length (middle_octets e) ≡ middle_size
unfolding middle_octets control_run_octets hand_octets
length_middle e = refl

length_wires : (r : Record) → length (wires_octets r) ≡ wires_size
unfolding wires_octets ring_octets
length_wires r = refl

pub length_encode : (r : Record) → length (encode_of r) ≡ record_end
unfolding encode_of
length_encode r = simp (length-append, length_front, length_controller, length_middle, length_conns, length_wires)

-- ---- stores, one after another

pub next : (l : Octets) (at k : ℕ) (a b : Octets) → length a ≡ k → splice (splice l at a) (at + k) b ≡ splice l at (a ++ b)
next l at k a b e = ap (λ (n : ℕ). splice (splice l at a) (at + n) b) (sym e) ∙ splice_next l at a b

module _ (l : Octets) (at : ℕ) where
  pub front_stored : (e : Ends)
      → splice (splice (splice l at (profile_octets e.profile)) (at + profile_size) (host_octets e.host)) (at + (profile_size + host_size)) (control_run_octets e.hearing)
      ≡ splice l at (front_octets e)
  unfolding front_octets
  front_stored e =
      let p = profile_octets e.profile in
      let h = host_octets e.host in
      rw (
        next l at profile_size p h (length_profile _),
        next l at (profile_size + host_size) (p ++ h) (control_run_octets e.hearing) (simp (length-append, length_profile, length_host)),
      )

  pub controller_stored : (k : Controller)
      → splice (splice (splice l at (phase_octet k.phase ∷ k.given ∷ [])) (at + rf_part) (rf_octets k.rf)) (at + pairs_part) (pairs_octets k.pairs)
      ≡ splice l at (controller_octets k)
  unfolding controller_octets
  controller_stored k =
      let h : Octets = phase_octet k.phase ∷ k.given ∷ [] in
      let x = rf_octets k.rf in
      rw (
        next l at rf_part h x refl,
        next l at pairs_part (h ++ x) (pairs_octets k.pairs) (rw (length_rf k.rf)),
      )

  pub middle_stored : (e : Ends) → splice (splice l at (control_run_octets e.asking)) (at + control_run_size) (hand_octets e.endpoint) ≡ splice l at (middle_octets e)
  unfolding middle_octets
  middle_stored e = next l at control_run_size (control_run_octets e.asking) (hand_octets e.endpoint) (length_run e.asking)

  pub conns_stored : (s : List Counts)
      → splice (splice (splice (splice (splice l at (counts_in s 0)) (at + counts_part 1) (counts_in s 1)) (at + counts_part 2) (counts_in s 2)) (at + counts_part 3) (counts_in s 3)) (at + counts_part 4) (counts_in s 4)
      ≡ splice l at (conns_octets s)
  unfolding conns_octets
  conns_stored s =
      let b : ℕ → Octets = λ i. counts_in s i in
      rw (
        next l at (counts_part 1) (b 0) (b 1) (length_counts _),
        next l at (counts_part 2) (b 0 ++ b 1) (b 2) (simp (length-append, length_counts)),
        next l at (counts_part 3) (b 0 ++ b 1 ++ b 2) (b 3) (simp (length-append, length_counts)),
        next l at (counts_part 4) (b 0 ++ b 1 ++ b 2 ++ b 3) (b 4) (simp (length-append, length_counts)),
      )

  -- the array's first n connections
  abbrev pub stored_to : List Counts → ℕ → Octets
  stored_to s zero = l
  stored_to s (suc n) = splice (stored_to s n) (at + counts_part n) (counts_in s n)

  pub all_stored : (s : List Counts) → stored_to s 5 ≡ splice l at (conns_octets s)
  all_stored s =
      let e : at + counts_part 0 ≡ at = omega arith in
      (λ i. splice (splice (splice (splice (splice l (e i) (counts_in s 0)) (at + counts_part 1) (counts_in s 1)) (at + counts_part 2) (counts_in s 2)) (at + counts_part 3) (counts_in s 3)) (at + counts_part 4) (counts_in s 4))
      ∙ conns_stored s

pub encode_stored : (l : Octets) (r : Record)
    → splice (splice (splice (splice (splice l record_at (front_octets r.ends)) (record_at + controller_place) (controller_octets r.ends.controller)) (record_at + asking_place) (middle_octets r.ends)) (record_at + conns_place) (conns_octets r.ends.conns)) (record_at + down_place) (wires_octets r)
    ≡ splice l record_at (encode_of r)
unfolding encode_of
encode_stored l r =
    let f = front_octets r.ends in
    let k = controller_octets r.ends.controller in
    let m = middle_octets r.ends in
    let s = conns_octets r.ends.conns in
    rw (
      next l record_at controller_place f k (length_front _),
      next l record_at asking_place (f ++ k) m (simp (length-append, length_front, length_controller)),
      next l record_at conns_place (f ++ k ++ m) s (simp (length-append, length_front, length_controller, length_middle)),
      next l record_at down_place (f ++ k ++ m ++ s) (wires_octets r) (simp (length-append, length_front, length_controller, length_middle, length_conns)),
    )
