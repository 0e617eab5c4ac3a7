-- Row 1's tests and the bounds they stand for, both ways.
-- Assumes nothing.
use Prim.Native.Nat.{ℕ, zero, suc, ◌≤◌, ◌<◌}
use mathlib.Core.Path.{◌≡◌, refl, sym}
use mathlib.Core.Bool.{Bool, true, false, not, ◌&&◌, ◌||◌, false≢true}
use mathlib.Core.List.{List, [], ◌∷◌}
use native.Mathlib.Omega.{arith}
use lib.ListN.{length, get_or}
use lib.Dec.{eqb, ltb, leb}
use borrow.Author.Tests.{leb-true, ltb-true, le-leb, lt-ltb, eqb-false, ne_eqb}
use Rattle.octets.specs.Octets.{Octets}
use Rattle.record.specs.Kinds.{Hand, Ring, HostSide, ControllerSide, Counts, Ends, Record}
use Rattle.state.specs.Conn.{closed_counts}
use Rattle.state.specs.Profile.{least_size, profile_ok}
use Rattle.state.proofs.Chains.{every_at}
use Rattle.state.proofs.Limits.{profile_within, within_profile}
use Rattle.area.specs.Map.{area_size, wire_slots, store_slots, message_size, control_size, places}
use Rattle.config.specs.Stored.{parameters_ok}
use Rattle.record.specs.Layout.{record_octets, config_octets, pairs_room}
use Rattle.record.specs.Reading.{decode_of}
use Rattle.record.specs.Judge.{ring_ok, hand_ok, given_ok, host_side_ok, controller_side_ok, counts_ok, counts_ok_in, conns_ok, ends_ok, record_ok, tags_ok, judge_of}
use Rattle.record.specs.Fit.{FitRing, FitHand, FitCounts, Each, Fit, GrantedCounts, Granted}

-- ---- tests of which one must hold

or_right : (a b : Bool) → (a || b) ≡ true → a ≡ false → b ≡ true
or_right true b h e = absurd (false≢true (sym e))
or_right false b h e = h

then : (a b : Bool) → (not a || b) ≡ true → a ≡ true → b ≡ true
then true b h e = h
then false b h e = absurd (false≢true e)

then_not : (a b : Bool) → (a ≡ true → b ≡ true) → (not a || b) ≡ true
then_not true b f = f refl
then_not false b f = refl

or_other : (a b : Bool) → (a ≡ false → b ≡ true) → (a || b) ≡ true
or_other true b f = refl
or_other false b f = f refl

-- ---- rings, messages in hand, the ID given

ring_fits : (slots : ℕ) (k : Ring) → ring_ok slots k ≡ true → FitRing slots k
ring_fits slots k h =
    let at = every_at (leb k.count slots) (ltb k.head slots ∷ []) h in
    record { head = ltb-true k.head slots (at 1); count = leb-true k.count slots (at 0) }

fits_ring : (slots : ℕ) (k : Ring) → FitRing slots k → ring_ok slots k ≡ true
fits_ring slots k f = rw (le-leb k.count slots f.count, lt-ltb k.head slots f.head)

hand_fits : (h : Hand) → hand_ok h ≡ true → FitHand h
unfolding hand_ok
hand_fits h e =
    let at = every_at (leb h.len message_size) (leb h.at h.len ∷ []) e in
    record { len = leb-true h.len message_size (at 0); at = leb-true h.at h.len (at 1) }

fits_hand : (h : Hand) → FitHand h → hand_ok h ≡ true
unfolding hand_ok
fits_hand h f = rw (le-leb h.len message_size f.len, le-leb h.at h.len f.at)

given_fits : (id : ℕ) → given_ok id ≡ true → (id ≡ 0 → ⊥) → (2 ≤ id) × (id ≤ 5)
unfolding given_ok
given_fits id h n =
    let both = or_right (eqb id 0) (leb 2 id && leb id 5) h (ne_eqb id 0 n) in
    let at = every_at (leb 2 id) (leb id 5 ∷ []) both in
    (leb-true 2 id (at 0), leb-true id 5 (at 1))

fits_given : (id : ℕ) → ((id ≡ 0 → ⊥) → (2 ≤ id) × (id ≤ 5)) → given_ok id ≡ true
unfolding given_ok
fits_given id f =
    or_other (eqb id 0) (leb 2 id && leb id 5)
    (λ e. let b = f (eqb-false id 0 e) in rw (le-leb 2 id b.0, le-leb id 5 b.1))

-- ---- connections

-- the tests of each end, that on credits first
abbrev host_tests : HostSide → List Bool
host_tests s = (not s.opened || leb 1 s.payload) ∷ hand_ok s.hand ∷ leb s.run.len message_size ∷ []

abbrev controller_tests : ControllerSide → List Bool
controller_tests k = ring_ok store_slots k.store ∷ leb k.run.len message_size ∷ []

module _ (c : Counts) (h : counts_ok c ≡ true) where
  host_tests_law : (i : ℕ) → get_or (leb c.host.held c.host.grant ∷ host_tests c.host) i true ≡ true
  unfolding counts_ok host_side_ok
  host_tests_law =
      every_at (leb c.host.held c.host.grant) (host_tests c.host) (every_at (host_side_ok c.host) (controller_side_ok c.controller ∷ []) h 0)

  controller_tests_law : (i : ℕ) → get_or (leb c.controller.owed c.controller.grant ∷ controller_tests c.controller) i true ≡ true
  unfolding counts_ok controller_side_ok
  controller_tests_law =
      every_at (leb c.controller.owed c.controller.grant) (controller_tests c.controller) (every_at (host_side_ok c.host) (controller_side_ok c.controller ∷ []) h 1)

  counts_fit : FitCounts c
  counts_fit =
      let s = c.host in
      let k = c.controller in
      record {
        payload = λ o. leb-true 1 s.payload (then s.opened (leb 1 s.payload) (host_tests_law 1) o);
        hand = hand_fits s.hand (host_tests_law 2);
        host_run_law = leb-true s.run.len message_size (host_tests_law 3);
        store = ring_fits store_slots k.store (controller_tests_law 1);
        controller_run_law = leb-true k.run.len message_size (controller_tests_law 2);
      }

  counts_granted : GrantedCounts c
  counts_granted =
      record {
        held = leb-true c.host.held c.host.grant (host_tests_law 0);
        owed = leb-true c.controller.owed c.controller.grant (controller_tests_law 0);
      }

fits_counts : (c : Counts) → FitCounts c → GrantedCounts c → counts_ok c ≡ true
unfolding counts_ok host_side_ok controller_side_ok
fits_counts c f g =
    let s = c.host in
    let k = c.controller in
    let open-payload = then_not s.opened (leb 1 s.payload) (λ o. le-leb 1 s.payload (f.payload o)) in
    rw (
      le-leb s.held s.grant g.held,
      open-payload,
      fits_hand s.hand f.hand,
      le-leb s.run.len message_size f.host_run_law,
      le-leb k.owed k.grant g.owed,
      fits_ring store_slots k.store f.store,
      le-leb k.run.len message_size f.controller_run_law,
    )

-- each of the five is tested
conns_each : (l : List Counts) → conns_ok l ≡ true → (p : ℕ) → p < places → counts_ok_in l p ≡ true
unfolding conns_ok
conns_each l h = go
  where
    at : (i : ℕ) → get_or (counts_ok_in l 0 ∷ counts_ok_in l 1 ∷ counts_ok_in l 2 ∷ counts_ok_in l 3 ∷ counts_ok_in l 4 ∷ []) i true ≡ true
    at = every_at (counts_ok_in l 0) (counts_ok_in l 1 ∷ counts_ok_in l 2 ∷ counts_ok_in l 3 ∷ counts_ok_in l 4 ∷ []) h

    go : (p : ℕ) → p < places → counts_ok_in l p ≡ true
    go zero i = at 0
    go (suc zero) i = at 1
    go (suc (suc zero)) i = at 2
    go (suc (suc (suc zero))) i = at 3
    go (suc (suc (suc (suc zero)))) i = at 4
    go (suc (suc (suc (suc (suc n))))) i = absurd (omega arith)

fits_conns : (l : List Counts) → Each FitCounts l → Each GrantedCounts l → conns_ok l ≡ true
unfolding conns_ok
fits_conns l f g =
    let at : (p : ℕ) → p < places → counts_ok_in l p ≡ true = λ p i. fits_counts (get_or l p closed_counts) (f p i) (g p i) in
    rw (at 0 (omega arith), at 1 (omega arith), at 2 (omega arith), at 3 (omega arith), at 4 (omega arith))

-- ---- the record

-- the tests of both ends, after that on the host's size
abbrev own_tests : Ends → List Bool
own_tests e =
    leb e.hearing.run.len control_size ∷ leb e.asking.run.len control_size ∷ leb e.controller.pairs.count pairs_room
    ∷ given_ok e.controller.given ∷ profile_ok e.profile ∷ hand_ok e.endpoint ∷ conns_ok e.conns ∷ []

module _ (r : Record) (ok : record_ok r ≡ true) where
  wire_tests : (i : ℕ) → get_or (ring_ok wire_slots r.down ∷ ring_ok wire_slots r.up ∷ ends_ok r.ends ∷ []) i true ≡ true
  unfolding record_ok
  wire_tests = every_at (ring_ok wire_slots r.down) (ring_ok wire_slots r.up ∷ ends_ok r.ends ∷ []) ok

  own_tests_law : (i : ℕ) → get_or (leb least_size r.ends.host.size ∷ own_tests r.ends) i true ≡ true
  unfolding ends_ok
  own_tests_law = every_at (leb least_size r.ends.host.size) (own_tests r.ends) (wire_tests 2)

  pub ok_fits : Fit r
  ok_fits =
      let e = r.ends in
      let k = e.controller in
      record {
        down = ring_fits wire_slots r.down (wire_tests 0);
        up = ring_fits wire_slots r.up (wire_tests 1);
        own =
            record {
              profile = profile_within e.profile (own_tests_law 5);
              size = leb-true least_size e.host.size (own_tests_law 0);
              hearing = leb-true e.hearing.run.len control_size (own_tests_law 1);
              controller = record { pairs = leb-true k.pairs.count pairs_room (own_tests_law 3); given = given_fits k.given (own_tests_law 4) };
              asking = leb-true e.asking.run.len control_size (own_tests_law 2);
              endpoint = hand_fits e.endpoint (own_tests_law 6);
            };
        conns = λ p i. counts_fit (get_or e.conns p closed_counts) (conns_each e.conns (own_tests_law 7) p i);
      }

  pub ok_granted : Granted r
  ok_granted p i = counts_granted (get_or r.ends.conns p closed_counts) (conns_each r.ends.conns (own_tests_law 7) p i)

pub fits_judged : (r : Record) → Fit r → Granted r → record_ok r ≡ true
unfolding record_ok ends_ok
fits_judged r f g =
    let e = r.ends in
    let k = e.controller in
    rw (
      fits_ring wire_slots r.down f.down,
      fits_ring wire_slots r.up f.up,
      le-leb least_size e.host.size f.own.size,
      le-leb e.hearing.run.len control_size f.own.hearing,
      le-leb e.asking.run.len control_size f.own.asking,
      le-leb k.pairs.count pairs_room f.own.controller.pairs,
      fits_given k.given f.own.controller.given,
      within_profile e.profile f.own.profile,
      fits_hand e.endpoint f.own.endpoint,
      fits_conns e.conns f.conns g,
    )

module _ (area : Octets) (h : judge_of area ≡ true) where
  judged_tests : (i : ℕ) → get_or (tags_ok (record_octets area) ∷ record_ok (decode_of area) ∷ parameters_ok (config_octets area) ∷ []) i true ≡ true
  unfolding judge_of
  judged_tests = every_at (tags_ok (record_octets area)) (record_ok (decode_of area) ∷ parameters_ok (config_octets area) ∷ []) h

  judged_ok : record_ok (decode_of area) ≡ true
  judged_ok = judged_tests 1

  pub judged_parameters : parameters_ok (config_octets area) ≡ true
  judged_parameters = judged_tests 2

pub judged_fits : (area : Octets) → judge_of area ≡ true → area_size ≤ length area → Fit (decode_of area)
judged_fits area h long = ok_fits (decode_of area) (judged_ok area h)

pub judged_granted : (area : Octets) → judge_of area ≡ true → Granted (decode_of area)
judged_granted area h = ok_granted (decode_of area) (judged_ok area h)
