-- A record that is written is read back and judged good.
-- Assumes nothing.
use Prim.Native.Nat.{ℕ, zero, suc, ◌+◌, ◌-◌, ◌*◌, ◌≤◌, ◌<◌}
use mathlib.Core.Path.{◌≡◌, refl, sym, ap, ◌∙◌}
use mathlib.Core.Bool.{Bool, true, false}
use mathlib.Core.List.{List, [], ◌∷◌, ◌++◌}
use native.Mathlib.Omega.{arith}
use lib.ListN.{length, get_or, take, drop, drop_of_length-le}
use lib.Seq.{drop-cons, take-add}
use lib.Dec.{eqb, leb}
use Rattle.std.specs.Prelude.{Option, Some, None}
use Rattle.octets.specs.Octets.{Octets, cut}
use Rattle.octets.proofs.Octets.{cut_same}
use Rattle.record.specs.Kinds.{Rf, Progress, ControlRun, Phase, Asked, Hand, Ring, Counts, Record}
use Rattle.record.specs.Kinds.rf.{Idle, Discovery, W4AllDiscoveries, W4HostSelect, PollActive, ListenActive, ListenSleep}
use Rattle.record.specs.Kinds.phase.{Cold, Reset, Ready}
use Rattle.state.specs.Conn.{closed_counts}
use Rattle.area.specs.Map.{area_size, record_at, record_room, wire_slots, message_size, control_size, places}
use Rattle.config.specs.Stored.{parameters_ok}
use Rattle.record.specs.Layout.{record_octets, config_octets, pairs_room, record_end, high, low, bit}
use Rattle.record.specs.Reading.{wide_at, pending_of, phase_of, rf_of, profile_at, progress_at, control_run_at, hand_at, ring_at, host_at, pair_at, pairs_at, controller_at, host_side_at, controller_side_at, counts_at, conns_at, ends_of, record_of, decode_of}
use Rattle.record.specs.Writing.{pending_octets, phase_octet, rf_octets, profile_octets, control_run_octets, hand_octets, ring_octets, host_octets, no_pair, pairs_octets, controller_octets, counts_octets, conns_octets, front_octets, middle_octets, wires_octets, encode_of}
use Rattle.record.specs.Judge.{record_ok, rf_known, conn_known, conns_known, tags_ok, judge_of}
use Rattle.record.specs.Fit.{Shape, FitCounts, Fit}
use Rattle.record.specs.Claims.{saved}
use Rattle.record.proofs.Writing.{length_encode}
use Rattle.record.proofs.Fits.{ok_fits}
use Rattle.record.proofs.Outside.{same_config}

-- ---- a list is its elements

abbrev elements : {A : Type 0} → A → List A → ℕ → ℕ → List A
elements d l i zero = []
elements d l i (suc n) = get_or l i d ∷ elements d l (suc i) n

elements_drop : {A : Type 0} (d : A) (l : List A) (i n : ℕ) → length l ≡ i + n → elements d l i n ≡ drop i l
elements_drop d l i zero p =
    let h : length l ≤ i = omega arith in
    sym (drop_of_length-le l h)
elements_drop d l i (suc n) p =
    let h : i < length l = omega arith in
    let q : length l ≡ suc i + n = omega arith in
    ap (λ k. get_or l i d ∷ k) (elements_drop d l (suc i) n q) ∙ sym (drop-cons l i d h)

elements_are : {A : Type 0} (d : A) (l : List A) (n : ℕ) → length l ≡ n → elements d l 0 n ≡ l
elements_are d l n p = elements_drop d l 0 n (omega arith)

-- ---- numbers and yes or no, written and read

both : (n : ℕ) → n ≤ message_size → high n * 256 + low n ≡ n
both n h = omega arith

small : (n : ℕ) → n ≤ wire_slots → low n ≡ n
small n h = omega arith

bit_back : (b : Bool) → eqb (bit b) 1 ≡ b
unfolding bit
bit_back true = refl
bit_back false = refl

bit_known : (b : Bool) → leb (bit b) 1 ≡ true
unfolding bit
bit_known true = refl
bit_known false = refl

-- ---- cases, written and read

-- the octets of a case, whichever it is
abbrev four : Octets → Octets
four l = get_or l 0 0 ∷ get_or l 1 0 ∷ get_or l 2 0 ∷ get_or l 3 0 ∷ []

pending_four : (p : Option Asked) → pending_octets p ≡ four (pending_octets p)
unfolding pending_octets
pending_four None = refl
pending_four (Some a) = refl

abbrev pending_in : Octets → Option Asked
pending_in l = pending_of (get_or l 0 0) (get_or l 1 0) (get_or l 2 0) (get_or l 3 0)

pending_back : (p : Option Asked) → pending_in (pending_octets p) ≡ p
unfolding pending_octets pending_of
pending_back None = refl
pending_back (Some a) = refl

pending_known : (p : Option Asked) → leb (get_or (pending_octets p) 0 0) 1 ≡ true
unfolding pending_octets
pending_known None = refl
pending_known (Some a) = refl

phase_back : (p : Phase) → phase_of (phase_octet p) ≡ p
unfolding phase_of phase_octet
phase_back Cold = refl
phase_back Reset = refl
phase_back Ready = refl

phase_known : (p : Phase) → leb (phase_octet p) 2 ≡ true
unfolding phase_octet
phase_known Cold = refl
phase_known Reset = refl
phase_known Ready = refl

rf_four : (x : Rf) → rf_octets x ≡ four (rf_octets x)
unfolding rf_octets
rf_four Idle = refl
rf_four Discovery = refl
rf_four W4AllDiscoveries = refl
rf_four (W4HostSelect None) = refl
rf_four (W4HostSelect (Some p)) = refl
rf_four (PollActive a) = refl
rf_four (ListenActive a) = refl
rf_four ListenSleep = refl

abbrev rf_in : Octets → Rf
rf_in l = rf_of (get_or l 0 0) (get_or l 1 0) (get_or l 2 0) (get_or l 3 0)

rf_back : (x : Rf) → rf_in (rf_octets x) ≡ x
unfolding rf_octets rf_of
rf_back Idle = refl
rf_back Discovery = refl
rf_back W4AllDiscoveries = refl
rf_back (W4HostSelect None) = refl
rf_back (W4HostSelect (Some p)) = refl
rf_back (PollActive a) = refl
rf_back (ListenActive a) = refl
rf_back ListenSleep = refl

rf_known_law : (x : Rf) → rf_known (get_or (rf_octets x) 0 0) (get_or (rf_octets x) 1 0) ≡ true
unfolding rf_octets rf_known
rf_known_law Idle = refl
rf_known_law Discovery = refl
rf_known_law W4AllDiscoveries = refl
rf_known_law (W4HostSelect None) = refl
rf_known_law (W4HostSelect (Some p)) = refl
rf_known_law (PollActive a) = refl
rf_known_law (ListenActive a) = refl
rf_known_law ListenSleep = refl

-- ---- parts, written and read

progress : Progress → Progress
progress p = record { len = high p.len * 256 + low p.len; lost = eqb (bit p.lost) 1 }

progress_back : (p : Progress) → p.len ≤ message_size → progress p ≡ p
unfolding progress
progress_back p h = rw (both p.len h, bit_back p.lost)

run : ControlRun → ControlRun
run r = record { mt = r.mt; gid = r.gid; oid = r.oid; run = progress r.run }

run_back : (r : ControlRun) → r.run.len ≤ control_size → run r ≡ r
unfolding run
run_back r h = rw (progress_back r.run (omega arith))

hand : Hand → Hand
hand h = record { full = eqb (bit h.full) 1; len = high h.len * 256 + low h.len; at = high h.at * 256 + low h.at }

hand_back : (h : Hand) → h.len ≤ message_size → h.at ≤ h.len → hand h ≡ h
unfolding hand
hand_back h l a = rw (bit_back h.full, both h.len l, both h.at (omega arith))

ring : Ring → Ring
ring k = record { head = low k.head; count = low k.count }

ring_back : (k : Ring) → k.head ≤ wire_slots → k.count ≤ wire_slots → ring k ≡ k
unfolding ring
ring_back k h n = rw (small k.head h, small k.count n)

counts : Counts → Counts
counts c =
    record {
      host =
          record {
            opened = eqb (bit c.host.opened) 1;
            payload = c.host.payload;
            grant = c.host.grant;
            held = c.host.held;
            hand = hand c.host.hand;
            run = progress c.host.run;
          };
      controller =
          record {
            opened = eqb (bit c.controller.opened) 1;
            grant = c.controller.grant;
            owed = c.controller.owed;
            store = ring c.controller.store;
            run = progress c.controller.run;
          };
    }

counts_back : (c : Counts) → FitCounts c → counts c ≡ c
unfolding counts
counts_back c f =
    rw (
      bit_back c.host.opened,
      hand_back c.host.hand f.hand.len f.hand.at,
      progress_back c.host.run f.host_run_law,
      bit_back c.controller.opened,
      ring_back c.controller.store (omega arith) (omega arith),
      progress_back c.controller.run f.controller_run_law,
    )

-- ---- the record, with the octets of its two cases apart

written : Record → Octets → Octets → Octets
written r p x =
    profile_octets r.ends.profile ++ (r.ends.host.size ∷ p) ++ control_run_octets r.ends.hearing
    ++ ((phase_octet r.ends.controller.phase ∷ r.ends.controller.given ∷ []) ++ x ++ pairs_octets r.ends.controller.pairs)
    ++ middle_octets r.ends ++ conns_octets r.ends.conns ++ wires_octets r

encoded : (r : Record) → encode_of r ≡ written r (four (pending_octets r.ends.host.pending)) (four (rf_octets r.ends.controller.rf))
unfolding encode_of written front_octets host_octets controller_octets
encoded r = λ i. written r (pending_four r.ends.host.pending i) (rf_four r.ends.controller.rf i)

-- what is read of it
again : Record → Octets → Octets → Record
again r p x =
    record {
      ends =
          record {
            profile = r.ends.profile;
            host = record { size = r.ends.host.size; pending = pending_in p };
            hearing = run r.ends.hearing;
            controller =
                record {
                  phase = phase_of (phase_octet r.ends.controller.phase);
                  given = r.ends.controller.given;
                  rf = rf_in x;
                  pairs = record { list = elements no_pair r.ends.controller.pairs.list 0 pairs_room; count = low r.ends.controller.pairs.count };
                };
            asking = run r.ends.asking;
            endpoint = hand r.ends.endpoint;
            conns =
                counts (get_or r.ends.conns 0 closed_counts) ∷ counts (get_or r.ends.conns 1 closed_counts) ∷ counts (get_or r.ends.conns 2 closed_counts)
                ∷ counts (get_or r.ends.conns 3 closed_counts) ∷ counts (get_or r.ends.conns 4 closed_counts) ∷ [];
          };
      down = ring r.down;
      up = ring r.up;
    }

parts : (r : Record) (p x t : Octets) → record_of (written r (four p) (four x) ++ t) ≡ again r p x
unfolding written again record_of ends_of conns_at counts_at controller_side_at host_side_at controller_at pairs_at pair_at host_at ring_at hand_at control_run_at progress_at profile_at wide_at profile_octets control_run_octets pairs_octets middle_octets hand_octets conns_octets counts_octets wires_octets ring_octets progress run hand ring counts
parts r p x t = refl

tags : (r : Record) (p x t : Octets) → leb (get_or p 0 0) 1 ≡ true → rf_known (get_or x 0 0) (get_or x 1 0) ≡ true
    → tags_ok (written r (four p) (four x) ++ t) ≡ true
unfolding tags_ok conns_known conn_known written profile_octets control_run_octets pairs_octets middle_octets hand_octets conns_octets counts_octets wires_octets ring_octets
tags r p x t hp hx = simp (hp, hx, phase_known, bit_known)

again_back : (r : Record) → Shape r → Fit r → again r (pending_octets r.ends.host.pending) (rf_octets r.ends.controller.rf) ≡ r
unfolding again
again_back r s f =
    let c : (p : ℕ) → p < places → counts (get_or r.ends.conns p closed_counts) ≡ get_or r.ends.conns p closed_counts = λ p h. counts_back _ (f.conns p h) in
    rw (
      pending_back r.ends.host.pending,
      run_back r.ends.hearing f.own.hearing,
      phase_back r.ends.controller.phase,
      rf_back r.ends.controller.rf,
      elements_are no_pair r.ends.controller.pairs.list pairs_room s.pairs,
      small r.ends.controller.pairs.count (omega (arith, f.own.controller.pairs)),
      run_back r.ends.asking f.own.asking,
      hand_back r.ends.endpoint f.own.endpoint.len f.own.endpoint.at,
      c 0 (omega arith),
      c 1 (omega arith),
      c 2 (omega arith),
      c 3 (omega arith),
      c 4 (omega arith),
      elements_are closed_counts r.ends.conns places s.conns,
      ring_back r.down (omega arith) f.down.count,
      ring_back r.up (omega arith) f.up.count,
    )

-- ---- in the area

-- what stands after the record in its 512 octets
rest : Octets → Record → Octets
rest area r = take (record_room - record_end) (drop record_end (drop record_at (saved area r)))

room_saved : (area : Octets) (r : Record) → area_size ≤ length area → record_octets (saved area r) ≡ encode_of r ++ rest area r
unfolding record_octets cut rest
room_saved area r long =
    let l = length_encode r in
    let fits : record_at + length (encode_of r) ≤ length area = rw l (omega arith) in
    let same : take record_end (drop record_at (saved area r)) ≡ encode_of r = rw l at (cut_same area record_at (encode_of r) fits) in
    take-add record_end (record_room - record_end) (drop record_at (saved area r)) ∙ ap (λ (k : Octets). k ++ rest area r) same

module _ (area : Octets) (r : Record) (long : area_size ≤ length area) (s : Shape r) where
  in_room : record_octets (saved area r) ≡ written r (four (pending_octets r.ends.host.pending)) (four (rf_octets r.ends.controller.rf)) ++ rest area r
  in_room = room_saved area r long ∙ ap (λ (k : Octets). k ++ rest area r) (encoded r)

  pub reads_back : Fit r → decode_of (saved area r) ≡ r
  unfolding decode_of
  reads_back f = ap record_of in_room ∙ parts r (pending_octets r.ends.host.pending) (rf_octets r.ends.controller.rf) (rest area r) ∙ again_back r s f

  pub judged_back : record_ok r ≡ true → parameters_ok (config_octets area) ≡ true → judge_of (saved area r) ≡ true
  unfolding judge_of
  judged_back ok values =
      let p = r.ends.host.pending in
      let x = r.ends.controller.rf in
      let known = ap tags_ok in_room ∙ tags r (pending_octets p) (rf_octets x) (rest area r) (pending_known p) (rf_known_law x) in
      rw (known, reads_back (ok_fits r ok), same_config area r, ok) values
