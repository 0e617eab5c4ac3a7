-- The moves of one connection: its store, its message in hand, its runs, its numbers.
-- Assumes nothing.
use Prim.Native.Nat.{ℕ, ◌+◌, ◌*◌, ◌%◌, ◌≤◌, ◌<◌}
use native.Mathlib.Omega.{arith}
use mathlib.Core.Path.{◌≡◌, refl}
use mathlib.Core.Logic.{◌⊎◌, inl, inr, ⊎_elim}
use mathlib.Core.List.{[]}
use lib.ListN.{length, set}
use lib.Dec.{eqb}
use Rattle.octets.specs.Octets.{Octets, pick, cut, splice}
use Rattle.octets.proofs.Octets.{length_cut}
use Rattle.packets.specs.Segments.{Segment, body}
use Rattle.views.specs.Kinds.{Counts, Record}
use Rattle.state.specs.Conn as conn
use Rattle.state.specs.Conn.{place_of, counts_of, hand_with}
use Rattle.record.specs.Fit.{FitCounts}
use Rattle.record.specs.Plan.{with_conns, with_hand, with_host_run, with_store, with_controller_run}
use Rattle.area.specs.Map.{slot_size, store_slots, wire_size, store_size, message_size, control_size, places, stores_at, hands_at, host_runs_at, controller_runs_at, down_at, up_at, store_at, hand_at, endpoint_at, host_run_at, controller_run_at, asking_at, hearing_at}
use Rattle.area.specs.Ring.{trim, packets_in, free_at, put_into}
use Rattle.area.specs.Runs.{run_area}
use Rattle.area.proofs.Rings.{lt_cases, slot_copied, store, packets_put}
use Rattle.model.specs.Connection.{Connection, sent, heard_data, stored}
use Rattle.model.specs.Connection as connection
use Rattle.model.specs.State as bench
use Rattle.views.specs.View.{hand_of, run_of, connection_of, speech_of, view}
use Rattle.views.specs.Moves.{Sound, grew, joined}
use Rattle.views.proofs.Parts.{hand_same, run_same, packets_same, hand_put}
use Rattle.views.proofs.Runs.{run_joined, run_outside}
use Rattle.views.proofs.Frames.{Outside, outside_splice, same_outside, config_outside, KeptAt, conns_changed}
use Rattle.views.proofs.Moved.{hearing_kept, asking_kept, endpoint_kept, down_kept, up_kept}

-- two places of one kind lie apart
apart_messages : (base p q : ℕ) → (p ≡ q → ⊥) → (q * message_size + base + message_size ≤ p * message_size + base) ⊎ (p * message_size + base + message_size ≤ q * message_size + base)
apart_messages base p q ne = ⊎_elim (λ l. inr (omega arith)) (λ l. inl (omega arith)) (lt_cases p q ne)

apart_stores : (base p q : ℕ) → (p ≡ q → ⊥) → (q * store_size + base + store_size ≤ p * store_size + base) ⊎ (p * store_size + base + store_size ≤ q * store_size + base)
apart_stores base p q ne = ⊎_elim (λ l. inr (omega arith)) (λ l. inl (omega arith)) (lt_cases p q ne)

-- ---- one connection changes, and some octets that only it has

module _ (a b : Octets) (r : Record) (s : Sound a r) (c : ℕ) (l : place_of c < places) (lo hi : ℕ) (o : Outside lo hi a b) (from : stores_at ≤ lo) (to : hi ≤ asking_at) where
  -- the octets of a place lie before those that changed, or after them
  record Aside (p : ℕ) : Type 0 where
    store : (store_at p + store_size ≤ lo) ⊎ (hi ≤ store_at p)
    hand : (hand_at p + message_size ≤ lo) ⊎ (hi ≤ hand_at p)
    host_run_law : (host_run_at p + message_size ≤ lo) ⊎ (hi ≤ host_run_at p)
    controller_run_law : (controller_run_at p + message_size ≤ lo) ⊎ (hi ≤ controller_run_at p)

  aside_kept : (p : ℕ) → Aside p → KeptAt p a b
  aside_kept p w =
      record {
        store = same_outside lo hi (store_at p) store_size a b w.store o;
        hand = same_outside lo hi (hand_at p) message_size a b w.hand o;
        host_run_law = same_outside lo hi (host_run_at p) message_size a b w.host_run_law o;
        controller_run_law = same_outside lo hi (controller_run_at p) message_size a b w.controller_run_law o;
      }

  -- the view after, from what became of the connection
  one_changed : (k : Counts) (f : Connection → Connection)
      → connection_of (place_of c) b k (speech_of b r.ends.endpoint c) ≡ f (connection_of (place_of c) a (counts_of r.ends.conns c) (speech_of a r.ends.endpoint c))
      → ((p : ℕ) → p < places → (place_of c ≡ p → ⊥) → Aside p) → (endpoint_at + message_size ≤ lo) ⊎ (hi ≤ endpoint_at)
      → view b (with_conns (set r.ends.conns (place_of c) k) r) ≡ bench.with_conns (bench.at c f (view a r).conns) (view a r)
  one_changed k f e aside speech i =
      record {
        profile = r.ends.profile;
        host = r.ends.host;
        controller = r.ends.controller;
        hearing = hearing_kept a b r s (same_outside lo hi hearing_at control_size a b (inr (omega arith)) o) i;
        asking = asking_kept a b r s (same_outside lo hi asking_at control_size a b (inr (omega arith)) o) i;
        conns =
            conns_changed a b r.ends.conns s.shape.conns s.fit.conns c l r.ends.endpoint r.ends.endpoint k f e
            (λ p m ne. aside_kept p (aside p m ne))
            (λ d ne j. pick (eqb 0 d) (endpoint_kept a b r s (same_outside lo hi endpoint_at message_size a b speech o) j) []) i;
        down = down_kept a b r s (same_outside lo hi down_at wire_size a b (inl (omega arith)) o) i;
        up = up_kept a b r s (same_outside lo hi up_at wire_size a b (inl (omega arith)) o) i;
        config = config_outside lo hi a b (omega arith) o i;
      }

  -- what is kept of the connection itself
  abbrev own : Counts
  own = counts_of r.ends.conns c

  own_fits : FitCounts own
  own_fits = s.fit.conns (place_of c) l

  own_hand : (hand_at (place_of c) + message_size ≤ lo) ⊎ (hi ≤ hand_at (place_of c)) → hand_of (hand_at (place_of c)) own.host.payload b own.host.hand ≡ hand_of (hand_at (place_of c)) own.host.payload a own.host.hand
  own_hand w = hand_same (hand_at (place_of c)) own.host.payload a b own.host.hand own_fits.hand.at own_fits.hand.len (same_outside lo hi (hand_at (place_of c)) message_size a b w o)

  own_host_run : (host_run_at (place_of c) + message_size ≤ lo) ⊎ (hi ≤ host_run_at (place_of c)) → run_of (host_run_at (place_of c)) b own.host.run ≡ run_of (host_run_at (place_of c)) a own.host.run
  own_host_run w = run_same (host_run_at (place_of c)) message_size a b own.host.run own_fits.host_run_law (same_outside lo hi (host_run_at (place_of c)) message_size a b w o)

  own_store : (store_at (place_of c) + store_size ≤ lo) ⊎ (hi ≤ store_at (place_of c)) → packets_in (store_at (place_of c)) store_slots b own.controller.store ≡ packets_in (store_at (place_of c)) store_slots a own.controller.store
  own_store w = packets_same (store_at (place_of c)) store_slots store a b own.controller.store (same_outside lo hi (store_at (place_of c)) store_size a b w o)

  own_controller_run : (controller_run_at (place_of c) + message_size ≤ lo) ⊎ (hi ≤ controller_run_at (place_of c)) → run_of (controller_run_at (place_of c)) b own.controller.run ≡ run_of (controller_run_at (place_of c)) a own.controller.run
  own_controller_run w = run_same (controller_run_at (place_of c)) message_size a b own.controller.run own_fits.controller_run_law (same_outside lo hi (controller_run_at (place_of c)) message_size a b w o)

  own_speech : (endpoint_at + message_size ≤ lo) ⊎ (hi ≤ endpoint_at) → speech_of b r.ends.endpoint c ≡ speech_of a r.ends.endpoint c
  own_speech w i = pick (eqb 0 c) (endpoint_kept a b r s (same_outside lo hi endpoint_at message_size a b w o) i) []

module _ (a : Octets) (r : Record) (s : Sound a r) (c : ℕ) (l : place_of c < places) where
  abbrev counts : Counts
  counts = counts_of r.ends.conns c

  fits : FitCounts counts
  fits = s.fit.conns (place_of c) l

  -- ---- numbers only

  pub counts_set : (k : Counts)
      → view a (with_conns (set r.ends.conns (place_of c) k) r)
      ≡ bench.with_conns (bench.at c (λ _. connection_of (place_of c) a k (speech_of a r.ends.endpoint c)) (view a r).conns) (view a r)
  counts_set k i =
      bench.with_conns
      (conns_changed a a r.ends.conns s.shape.conns s.fit.conns c l r.ends.endpoint r.ends.endpoint k
      (λ _. connection_of (place_of c) a k (speech_of a r.ends.endpoint c)) refl
      (λ p m ne. record { store = λ i n g h. refl; hand = λ i n g h. refl; host_run_law = λ i n g h. refl; controller_run_law = λ i n g h. refl })
      (λ d ne. refl) i)
      (view a r)

  -- ---- the store

  pub put_store : (from : ℕ) → from + slot_size ≤ length a → counts.controller.store.count < store_slots
      → view (splice a (free_at (store_at (place_of c)) store_slots counts.controller.store) (cut from slot_size a))
      (with_conns (conn.with_controller r.ends.conns c (with_store (put_into counts.controller.store) counts.controller)) r)
      ≡ bench.with_conns (bench.at c (λ k. connection.with_controller (stored (trim (cut from slot_size a)) k.controller) k) (view a r).conns) (view a r)
  put_store from h free =
      let p = place_of c in
      let k = counts.controller.store in
      let v = cut from slot_size a in
      let n : length v ≡ slot_size = length_cut from slot_size a h in
      let b : Octets = splice a (free_at (store_at p) store_slots k) v in
      let lo = store_at p in
      let hi = store_at p + store_size in
      let o : Outside lo hi a b = outside_splice lo hi a (free_at (store_at p) store_slots k) v (omega arith) (omega arith) in
      let x = slot_copied (store_at p) a ((k.head + k.count) % store_slots) v n (omega (arith, s.room)) in
      one_changed a b r s c l lo hi o (omega arith) (omega arith) _ (λ k. connection.with_controller (stored (trim v) k.controller) k)
      (λ i.
      record {
        host =
            record {
              opened = counts.host.opened;
              payload = counts.host.payload;
              grant = counts.host.grant;
              held = counts.host.held;
              hand = own_hand a b r s c l lo hi o (omega arith) (omega arith) (inr (omega arith)) i;
              run = own_host_run a b r s c l lo hi o (omega arith) (omega arith) (inr (omega arith)) i;
            };
        controller =
            record {
              opened = counts.controller.opened;
              grant = counts.controller.grant;
              owed = counts.controller.owed;
              store = packets_put (store_at p) store_slots store a k v (trim v) free (omega arith) x i;
              run = own_controller_run a b r s c l lo hi o (omega arith) (omega arith) (inr (omega arith)) i;
              speech = own_speech a b r s c l lo hi o (omega arith) (omega arith) (inr (omega arith)) i;
            };
      })
      (λ q m ne.
      record {
        store = apart_stores stores_at p q ne;
        hand = inr (omega arith);
        host_run_law = inr (omega arith);
        controller_run_law = inr (omega arith);
      })
      (inr (omega arith))

  -- ---- the message in hand

  pub put_hand : (m : Octets) → length m ≤ message_size
      → view (splice a (hand_at (place_of c)) m) (with_conns (conn.with_host r.ends.conns c (with_hand (hand_with (length m)) counts.host)) r)
      ≡ bench.with_conns (bench.at c (λ k. connection.with_host (sent m k.host) k) (view a r).conns) (view a r)
  put_hand m h =
      let p = place_of c in
      let b : Octets = splice a (hand_at p) m in
      let lo = hand_at p in
      let hi = hand_at p + message_size in
      let o : Outside lo hi a b = outside_splice lo hi a (hand_at p) m (omega arith) (omega arith) in
      one_changed a b r s c l lo hi o (omega arith) (omega arith) _ (λ k. connection.with_host (sent m k.host) k)
      (λ i.
      record {
        host =
            record {
              opened = counts.host.opened;
              payload = counts.host.payload;
              grant = counts.host.grant;
              held = counts.host.held;
              hand = hand_put (hand_at p) counts.host.payload a m (omega (arith, s.room)) i;
              run = own_host_run a b r s c l lo hi o (omega arith) (omega arith) (inr (omega arith)) i;
            };
        controller =
            record {
              opened = counts.controller.opened;
              grant = counts.controller.grant;
              owed = counts.controller.owed;
              store = own_store a b r s c l lo hi o (omega arith) (omega arith) (inl (omega arith)) i;
              run = own_controller_run a b r s c l lo hi o (omega arith) (omega arith) (inr (omega arith)) i;
              speech = own_speech a b r s c l lo hi o (omega arith) (omega arith) (inr (omega arith)) i;
            };
      })
      (λ q m ne.
      record {
        store = inl (omega arith);
        hand = apart_messages hands_at p q ne;
        host_run_law = inr (omega arith);
        controller_run_law = inr (omega arith);
      })
      (inr (omega arith))

  -- ---- the runs

  pub join_host : (x : Segment)
      → view (run_area message_size (host_run_at (place_of c)) a counts.host.run (body x))
      (with_conns (conn.with_host r.ends.conns c (with_host_run (joined message_size counts.host.run x) counts.host)) r)
      ≡ bench.with_conns (bench.at c (λ k. connection.with_host (heard_data x k.host) k) (view a r).conns) (view a r)
  join_host x =
      let p = place_of c in
      let b : Octets = run_area message_size (host_run_at p) a counts.host.run (body x) in
      let lo = host_run_at p in
      let hi = host_run_at p + message_size in
      let o : Outside lo hi a b = run_outside message_size (host_run_at p) a counts.host.run (body x) in
      let j = run_joined message_size (host_run_at p) a counts.host.run x fits.host_run_law (omega (arith, s.room)) in
      one_changed a b r s c l lo hi o (omega arith) (omega arith) _ (λ k. connection.with_host (heard_data x k.host) k)
      (λ i.
      record {
        host =
            record {
              opened = counts.host.opened;
              payload = counts.host.payload;
              grant = counts.host.grant;
              held = counts.host.held;
              hand = own_hand a b r s c l lo hi o (omega arith) (omega arith) (inl (omega arith)) i;
              run = j.next i;
            };
        controller =
            record {
              opened = counts.controller.opened;
              grant = counts.controller.grant;
              owed = counts.controller.owed;
              store = own_store a b r s c l lo hi o (omega arith) (omega arith) (inl (omega arith)) i;
              run = own_controller_run a b r s c l lo hi o (omega arith) (omega arith) (inr (omega arith)) i;
              speech = own_speech a b r s c l lo hi o (omega arith) (omega arith) (inl (omega arith)) i;
            };
      })
      (λ q m ne.
      record {
        store = inl (omega arith);
        hand = inl (omega arith);
        host_run_law = apart_messages host_runs_at p q ne;
        controller_run_law = inr (omega arith);
      })
      (inl (omega arith))

  pub join_controller : (x : Segment)
      → view (run_area message_size (controller_run_at (place_of c)) a counts.controller.run (body x))
      (with_conns (conn.with_controller r.ends.conns c (with_controller_run (joined message_size counts.controller.run x) counts.controller)) r)
      ≡ bench.with_conns (bench.at c (λ k. connection.with_controller (grew x k.controller) k) (view a r).conns) (view a r)
  join_controller x =
      let p = place_of c in
      let b : Octets = run_area message_size (controller_run_at p) a counts.controller.run (body x) in
      let lo = controller_run_at p in
      let hi = controller_run_at p + message_size in
      let o : Outside lo hi a b = run_outside message_size (controller_run_at p) a counts.controller.run (body x) in
      let j = run_joined message_size (controller_run_at p) a counts.controller.run x fits.controller_run_law (omega (arith, s.room)) in
      one_changed a b r s c l lo hi o (omega arith) (omega arith) _ (λ k. connection.with_controller (grew x k.controller) k)
      (λ i.
      record {
        host =
            record {
              opened = counts.host.opened;
              payload = counts.host.payload;
              grant = counts.host.grant;
              held = counts.host.held;
              hand = own_hand a b r s c l lo hi o (omega arith) (omega arith) (inl (omega arith)) i;
              run = own_host_run a b r s c l lo hi o (omega arith) (omega arith) (inl (omega arith)) i;
            };
        controller =
            record {
              opened = counts.controller.opened;
              grant = counts.controller.grant;
              owed = counts.controller.owed;
              store = own_store a b r s c l lo hi o (omega arith) (omega arith) (inl (omega arith)) i;
              run = j.next i;
              speech = own_speech a b r s c l lo hi o (omega arith) (omega arith) (inl (omega arith)) i;
            };
      })
      (λ q m ne.
      record {
        store = inl (omega arith);
        hand = inl (omega arith);
        host_run_law = inl (omega arith);
        controller_run_law = apart_messages controller_runs_at p q ne;
      })
      (inl (omega arith))
