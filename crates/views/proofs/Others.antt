-- The moves that are of no single dynamic connection: the endpoint's message, the control runs, what lies past the runs, the
-- configuration in it; and a cold bench.
-- Assumes nothing.
use Prim.Native.Nat.{ℕ, zero, suc, ◌+◌, ◌≤◌, ◌<◌}
use native.Mathlib.Omega.{arith}
use mathlib.Core.Path.{◌≡◌, refl, ◌∙◌}
use mathlib.Core.Logic.{inl, inr}
use mathlib.Core.Bool.{Bool, true, false, ◌&&◌}
use mathlib.Core.List.{[], ◌∷◌}
use lib.ListN.{length, get_or}
use lib.Dec.{eqb}
use Rattle.octets.specs.Octets.{Octets, pick, cut, splice}
use Rattle.views.specs.Kinds.{Header, Profile, Hand, Record}
use Rattle.packets.specs.Segments.{Segment, body, flag, segments}
use Rattle.packets.specs.Reassembly.{run, grown}
use Rattle.views.specs.Kinds as kinds
use Rattle.state.specs.Conn.{start, empty, closed_counts, place_of, counts_of, hand_with}
use Rattle.state.specs.Runs as runs
use Rattle.area.specs.Map.{payload_size, wire_size, store_size, message_size, control_size, places, stores_at, down_at, up_at, store_at, hand_at, endpoint_at, host_run_at, controller_run_at, asking_at, hearing_at, spare_at, area_size}
use Rattle.area.specs.Ring.{tab, packets_from}
use Rattle.area.specs.Runs.{run_area}
use Rattle.config.specs.Table.{config_size}
use Rattle.config.specs.Stored.{defaults}
use Rattle.record.specs.Layout.{config_at, config_octets, configured}
use Rattle.record.proofs.Configured.{configured_back}
use Rattle.record.specs.Plan.{with_endpoint, with_hearing, with_asking, cold_record}
use Rattle.model.specs.Connection.{spoken}
use Rattle.model.specs.Connection as connection
use Rattle.model.specs.State as bench
use Rattle.model.specs.Runs.{run_for, run_after}
use Rattle.views.specs.View.{hand_of, run_of, control_run_of, connection_of, conns_of, down_of, up_of, view}
use Rattle.views.specs.Moves.{Sound}
use Rattle.views.proofs.Parts.{hand_put}
use Rattle.views.proofs.Runs.{run_joined, run_outside}
use Rattle.views.proofs.Frames.{Outside, outside_splice, same_outside, config_outside, KeptAt, conn_kept, conns_kept}
use Rattle.views.proofs.Moved.{hearing_kept, asking_kept, endpoint_kept, down_kept, up_kept}

-- ---- what lies before and after the octets of the connections

module _ (a b : Octets) (r : Record) (s : Sound a r) (lo hi : ℕ) (o : Outside lo hi a b) where
  -- octets past the connections' change
  pub conns_before : asking_at ≤ lo → conns_of b r.ends.endpoint r.ends.conns ≡ conns_of a r.ends.endpoint r.ends.conns
  conns_before h =
      conns_kept a b r.ends.conns s.shape.conns s.fit.conns r.ends.endpoint
      (λ p l.
      record {
        store = same_outside lo hi (store_at p) store_size a b (inl (omega arith)) o;
        hand = same_outside lo hi (hand_at p) message_size a b (inl (omega arith)) o;
        host_run_law = same_outside lo hi (host_run_at p) message_size a b (inl (omega arith)) o;
        controller_run_law = same_outside lo hi (controller_run_at p) message_size a b (inl (omega arith)) o;
      })
      (endpoint_kept a b r s (same_outside lo hi endpoint_at message_size a b (inl (omega arith)) o))

  pub down_before : up_at ≤ lo → down_of b r ≡ down_of a r
  down_before h = down_kept a b r s (same_outside lo hi down_at wire_size a b (inl (omega arith)) o)

  pub up_before : stores_at ≤ lo → up_of b r ≡ up_of a r
  up_before h = up_kept a b r s (same_outside lo hi up_at wire_size a b (inl (omega arith)) o)

-- ---- past the runs

-- of all that lies there the view has the configuration alone
beyond_runs : (a : Octets) (r : Record) (s : Sound a r) (at : ℕ) (v : Octets) → spare_at ≤ at → view (splice a at v) r ≡ bench.with_config (config_octets (splice a at v)) (view a r)
beyond_runs a r s at v h i =
    let b : Octets = splice a at v in
    let o : Outside at (at + length v) a b = outside_splice at (at + length v) a at v (omega arith) (omega arith) in
    let lo = at in
    let hi = at + length v in
    record {
      profile = r.ends.profile;
      host = r.ends.host;
      controller = r.ends.controller;
      hearing = hearing_kept a b r s (same_outside lo hi hearing_at control_size a b (inl (omega arith)) o) i;
      asking = asking_kept a b r s (same_outside lo hi asking_at control_size a b (inl (omega arith)) o) i;
      conns = conns_before a b r s lo hi o (omega arith) i;
      down = down_before a b r s lo hi o (omega arith) i;
      up = up_before a b r s lo hi o (omega arith) i;
      config = config_octets b;
    }

pub past_runs : (a : Octets) (r : Record) (s : Sound a r) (at : ℕ) (v : Octets) → spare_at ≤ at → at + length v ≤ config_at → view (splice a at v) r ≡ view a r
past_runs a r s at v h before =
    beyond_runs a r s at v h
    ∙ (λ i. bench.with_config (config_outside at config_at a (splice a at v) (omega arith) (outside_splice at config_at a at v (omega arith) before) i) (view a r))

pub put_config : (a : Octets) (r : Record) (s : Sound a r) (b : Octets) → length b ≡ config_size → view (configured a b) r ≡ bench.with_config b (view a r)
put_config a r s b n = beyond_runs a r s config_at b (omega arith) ∙ (λ i. bench.with_config (configured_back a b s.room n i) (view a r))

-- ---- the control runs

-- the run that a control packet joins
pub run_for_law : (base : ℕ) (a : Octets) (k : kinds.ControlRun) (h : Header) → run_of base a (runs.run_for k h) ≡ run_for (control_run_of base a k) h.mt h.id h.oid
unfolding run_of cut
run_for_law base a k h = go (eqb k.mt h.mt && eqb k.gid h.id && eqb k.oid h.oid)
  where
    go : (t : Bool) → run_of base a (pick t k.run start) ≡ pick t (run_of base a k.run) (run [])
    go true = refl
    go false = refl

-- the run after it
control_joined_law : (base : ℕ) (a : Octets) (k : kinds.ControlRun) (h : Header) (x : Segment) → h.pbf ≡ flag x → k.run.len ≤ control_size → base + control_size ≤ length a
    → control_run_of base (run_area control_size base a (runs.run_for k h) (body x)) (runs.control_joined k h (length (body x))).next ≡ run_after (control_run_of base a k) h.mt h.id h.oid x
unfolding runs.control_joined
control_joined_law base a k h x e n room =
    let b : Octets = run_area control_size base a (runs.run_for k h) (body x) in
    let j = run_joined control_size base a (runs.run_for k h) x (short (eqb k.mt h.mt && eqb k.gid h.id && eqb k.oid h.oid)) room in
    (λ i. record { mt = h.mt; gid = h.id; oid = h.oid; run = run_of base b (runs.joined_of control_size (runs.run_for k h) (e i) (length (body x))).next })
    ∙ (λ i. record { mt = h.mt; gid = h.id; oid = h.oid; run = j.next i })
    ∙ (λ i. record { mt = h.mt; gid = h.id; oid = h.oid; run = grown control_size (run_for_law base a k h i) x })
  where
    short : (t : Bool) → (pick t k.run start).len ≤ control_size
    short true = n
    short false = omega arith

module _ (a : Octets) (r : Record) (s : Sound a r) (h : Header) (x : Segment) (e : h.pbf ≡ flag x) where
  pub join_hearing : view (run_area control_size hearing_at a (runs.run_for r.ends.hearing h) (body x)) (with_hearing (runs.control_joined r.ends.hearing h (length (body x))).next r)
      ≡ bench.with_hearing (run_after (view a r).hearing h.mt h.id h.oid x) (view a r)
  join_hearing i =
      let b : Octets = run_area control_size hearing_at a (runs.run_for r.ends.hearing h) (body x) in
      let o : Outside hearing_at (hearing_at + control_size) a b = run_outside control_size hearing_at a (runs.run_for r.ends.hearing h) (body x) in
      let lo = hearing_at in
      let hi = hearing_at + control_size in
      record {
        profile = r.ends.profile;
        host = r.ends.host;
        controller = r.ends.controller;
        hearing = control_joined_law hearing_at a r.ends.hearing h x e s.fit.own.hearing (omega (arith, s.room)) i;
        asking = asking_kept a b r s (same_outside lo hi asking_at control_size a b (inl (omega arith)) o) i;
        conns = conns_before a b r s lo hi o (omega arith) i;
        down = down_before a b r s lo hi o (omega arith) i;
        up = up_before a b r s lo hi o (omega arith) i;
        config = config_outside lo hi a b (omega arith) o i;
      }

  pub join_asking : view (run_area control_size asking_at a (runs.run_for r.ends.asking h) (body x)) (with_asking (runs.control_joined r.ends.asking h (length (body x))).next r)
      ≡ bench.with_asking (run_after (view a r).asking h.mt h.id h.oid x) (view a r)
  join_asking i =
      let b : Octets = run_area control_size asking_at a (runs.run_for r.ends.asking h) (body x) in
      let o : Outside asking_at (asking_at + control_size) a b = run_outside control_size asking_at a (runs.run_for r.ends.asking h) (body x) in
      let lo = asking_at in
      let hi = asking_at + control_size in
      record {
        profile = r.ends.profile;
        host = r.ends.host;
        controller = r.ends.controller;
        hearing = hearing_kept a b r s (same_outside lo hi hearing_at control_size a b (inr (omega arith)) o) i;
        asking = control_joined_law asking_at a r.ends.asking h x e s.fit.own.asking (omega (arith, s.room)) i;
        conns = conns_before a b r s lo hi o (omega arith) i;
        down = down_before a b r s lo hi o (omega arith) i;
        up = up_before a b r s lo hi o (omega arith) i;
        config = config_outside lo hi a b (omega arith) o i;
      }

-- ---- the endpoint's message

module _ (a : Octets) (r : Record) (s : Sound a r) (m : Octets) (h : length m ≤ message_size) where
  put_speech : hand_of endpoint_at payload_size (splice a endpoint_at m) (hand_with (length m)) ≡ segments payload_size m
  put_speech = hand_put endpoint_at payload_size a m (omega (arith, s.room))

  -- connection 0 speaks it, and no other
  spoken_at : (d : ℕ) → conns_of (splice a endpoint_at m) (hand_with (length m)) r.ends.conns d
      ≡ bench.at 0 (λ k. connection.with_controller (spoken (segments payload_size m) k.controller) k) (conns_of a r.ends.endpoint r.ends.conns) d
  spoken_at d =
      (λ i. connection_of (place_of d) (splice a endpoint_at m) (counts_of r.ends.conns d) (pick (eqb 0 d) (put_speech i) []))
      ∙ conn_kept a (splice a endpoint_at m) r.ends.conns s.shape.conns s.fit.conns d (pick (eqb 0 d) (segments payload_size m) []) kept
      ∙ go (eqb 0 d)
    where
      kept : place_of d < places → KeptAt (place_of d) a (splice a endpoint_at m)
      kept l =
          let b : Octets = splice a endpoint_at m in
          let lo = endpoint_at in
          let hi = endpoint_at + message_size in
          let o : Outside lo hi a b = outside_splice lo hi a endpoint_at m (omega arith) (omega arith) in
          record {
            store = same_outside lo hi (store_at (place_of d)) store_size a b (inl (omega arith)) o;
            hand = same_outside lo hi (hand_at (place_of d)) message_size a b (inl (omega arith)) o;
            host_run_law = same_outside lo hi (host_run_at (place_of d)) message_size a b (inr (omega arith)) o;
            controller_run_law = same_outside lo hi (controller_run_at (place_of d)) message_size a b (inr (omega arith)) o;
          }

      go : (t : Bool) → connection_of (place_of d) a (counts_of r.ends.conns d) (pick t (segments payload_size m) [])
          ≡ pick t (connection_of (place_of d) a (counts_of r.ends.conns d) (segments payload_size m)) (connection_of (place_of d) a (counts_of r.ends.conns d) (pick t (hand_of endpoint_at payload_size a r.ends.endpoint) []))
      go true = refl
      go false = refl

  pub put_endpoint : view (splice a endpoint_at m) (with_endpoint (hand_with (length m)) r)
      ≡ bench.with_conns (bench.at 0 (λ k. connection.with_controller (spoken (segments payload_size m) k.controller) k) (view a r).conns) (view a r)
  put_endpoint i =
      let b : Octets = splice a endpoint_at m in
      let lo = endpoint_at in
      let hi = endpoint_at + message_size in
      let o : Outside lo hi a b = outside_splice lo hi a endpoint_at m (omega arith) (omega arith) in
      record {
        profile = r.ends.profile;
        host = r.ends.host;
        controller = r.ends.controller;
        hearing = hearing_kept a b r s (same_outside lo hi hearing_at control_size a b (inr (omega arith)) o) i;
        asking = asking_kept a b r s (same_outside lo hi asking_at control_size a b (inr (omega arith)) o) i;
        conns = λ d. spoken_at d i;
        down = down_before a b r s lo hi o (omega arith) i;
        up = up_before a b r s lo hi o (omega arith) i;
        config = config_outside lo hi a b (omega arith) o i;
      }

-- its numbers change, and no octet
pub endpoint_set : (a : Octets) (r : Record) (h : Hand)
    → view a (with_endpoint h r)
    ≡ bench.with_conns (bench.at 0 (λ k. connection.with_controller (spoken (hand_of endpoint_at payload_size a h) k.controller) k) (view a r).conns) (view a r)
endpoint_set a r h i = bench.with_conns (λ d. go d (eqb 0 d) i) (view a r)
  where
    go : (d : ℕ) (t : Bool) → connection_of (place_of d) a (counts_of r.ends.conns d) (pick t (hand_of endpoint_at payload_size a h) [])
        ≡ pick t (connection_of (place_of d) a (counts_of r.ends.conns d) (hand_of endpoint_at payload_size a h))
        (connection_of (place_of d) a (counts_of r.ends.conns d) (pick t (hand_of endpoint_at payload_size a r.ends.endpoint) []))
    go d true = refl
    go d false = refl

-- ---- a cold bench

all_closed : (p : ℕ) → get_or (closed_counts ∷ closed_counts ∷ closed_counts ∷ closed_counts ∷ closed_counts ∷ []) p closed_counts ≡ closed_counts
all_closed zero = refl
all_closed (suc zero) = refl
all_closed (suc (suc zero)) = refl
all_closed (suc (suc (suc zero))) = refl
all_closed (suc (suc (suc (suc zero)))) = refl
all_closed (suc (suc (suc (suc (suc p))))) = refl

silent : (t : Bool) → pick t (hand_of endpoint_at payload_size [] empty) [] ≡ []
unfolding hand_of
silent true = refl
silent false = refl

-- but for its configuration
cold_ends_law : (a : Octets) (p : Profile) → view a (cold_record p) ≡ bench.with_config (config_octets a) (bench.cold p)
unfolding hand_of run_of packets_from tab cut
cold_ends_law a p i =
    bench.with_conns (λ d. connection_of (place_of d) a (all_closed (place_of d) i) (silent (eqb 0 d) i)) (bench.with_config (config_octets a) (bench.cold p))

pub cold_view : (a : Octets) (p : Profile) → area_size ≤ length a → view (configured a defaults) (cold_record p) ≡ bench.cold p
cold_view a p long = cold_ends_law (configured a defaults) p ∙ (λ i. bench.with_config (configured_back a defaults long refl i) (bench.cold p))
