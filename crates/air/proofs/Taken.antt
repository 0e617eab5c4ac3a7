-- What an event of the air is when it was read and when it is taken, and that the controller's numbers after it are within limits.
-- Assumes nothing.
use Rattle.std.specs.Prelude.{Option, Some, None}
use Prim.Native.Nat.{ℕ, ◌≤◌}
use native.Mathlib.Omega.{arith}
use mathlib.Core.Path.{◌≡◌, refl, ◌∙◌}
use mathlib.Core.Bool.{Bool, true, false, ◌&&◌, ◌||◌}
use mathlib.Core.List.{[], ◌∷◌}
use lib.Dec.{eqb, ltb, leb}
use lib.ListN.{length, get_or, drop, length-drop, length-set}
use borrow.Author.Tests.{eqb-true, ltb-true, leb-true}
use Rattle.std.specs.Prelude.{Some, None}
use Rattle.octets.specs.Octets.{Octets}
use Rattle.air.specs.Kinds.{Controller, Pairs, Activation, Rf, Event, Listing, Aired}
use Rattle.air.specs.Kinds.rf.{Idle, Discovery, W4AllDiscoveries, W4HostSelect, PollActive, ListenActive, ListenSleep}
use Rattle.air.specs.Kinds.event.{Found, Poll, Listen, Failed, Sleeps, LinkLost, Releases, Endpoint}
use Rattle.air.specs.Kinds.listing.{Keeps, Starts, Adds}
use Rattle.air.specs.Kinds.aired.{Goes, Activates, Ends, Speaks}
use Rattle.state.specs.Radio.{is_active, is_listening, is_asleep, polls, listens, id_ok, pair_of, same_pair, added_to}
use Rattle.state.proofs.Chains.{every_at, on}
use Rattle.state.proofs.Steady.{Steady}
use Rattle.air.specs.Air.{target_of, found_in, active_in, poll_in, listen_in, event_of, no_room, found_to, found_by, poll_by, listen_by, failed_by, aired_by, listed_after, controller_aired}

-- ---- an event of the air that was read is within its limits

-- only one of kind 8 is a message, of up to 1,024 octets
abbrev pub Within : Octets → Option Event → Type 0
Within m None = Unit {0}
Within m (Some (Found a type)) =
    (eqb (get_or m 0 0) 8 ≡ false) × (id_ok a.id ≡ true) × (polls a.mode ≡ true) × (type ≤ 2) × (length (drop 5 m) ≤ 32)
Within m (Some (Poll a)) = (eqb (get_or m 0 0) 8 ≡ false) × (id_ok a.id ≡ true) × (polls a.mode ≡ true) × (length (drop 4 m) ≤ 32)
Within m (Some (Listen a)) = (eqb (get_or m 0 0) 8 ≡ false) × (id_ok a.id ≡ true) × (listens a.mode ≡ true) × (length (drop 4 m) ≤ 32)
Within m (Some Failed) = eqb (get_or m 0 0) 8 ≡ false
Within m (Some Sleeps) = eqb (get_or m 0 0) 8 ≡ false
Within m (Some LinkLost) = eqb (get_or m 0 0) 8 ≡ false
Within m (Some Releases) = eqb (get_or m 0 0) 8 ≡ false
Within m (Some Endpoint) = (eqb (get_or m 0 0) 8 ≡ true) × (length (drop 1 m) ≤ 1024)

module _ (m : Octets) where
  found_within : eqb (get_or m 0 0) 8 ≡ false → Within m (found_in m)
  unfolding found_in
  found_within k =
      on (Within m) (leb 5 (length m) && leb (length m) 37 && id_ok (get_or m 1 0) && polls (get_or m 3 0) && leb (get_or m 4 0) 2)
      (λ e. let at = every_at (leb 5 (length m)) (leb (length m) 37 ∷ id_ok (get_or m 1 0) ∷ polls (get_or m 3 0) ∷ leb (get_or m 4 0) 2 ∷ []) e in
      let long = leb-true (length m) 37 (at 1) in
      (k, at 2, at 3, leb-true (get_or m 4 0) 2 (at 4), simp length-drop (omega arith)))
      (λ e. tt)

  active_within : (b : Bool) (e : Event) → (id_ok (get_or m 1 0) ≡ true → b ≡ true → length (drop 4 m) ≤ 32 → Within m (Some e)) → Within m (active_in m b e)
  active_within b e f =
      on (Within m) (leb 4 (length m) && leb (length m) 36 && id_ok (get_or m 1 0) && b)
      (λ h. let at = every_at (leb 4 (length m)) (leb (length m) 36 ∷ id_ok (get_or m 1 0) ∷ b ∷ []) h in
      let long = leb-true (length m) 36 (at 1) in
      f (at 2) (at 3) (simp length-drop (omega arith)))
      (λ h. tt)

  poll_within : eqb (get_or m 0 0) 8 ≡ false → Within m (poll_in m)
  unfolding poll_in
  poll_within k = active_within (polls (get_or m 3 0)) (Poll (target_of m)) (λ named polling short. (k, named, polling, short))

  listen_within : eqb (get_or m 0 0) 8 ≡ false → Within m (listen_in m)
  unfolding listen_in
  listen_within k = active_within (listens (get_or m 3 0)) (Listen (target_of m)) (λ named listening short. (k, named, listening, short))

  pub event_within : Within m (event_of m)
  unfolding event_of
  event_within =
      let kind = get_or m 0 0 in
      let other : (n : ℕ) → eqb n 8 ≡ false → eqb kind n ≡ true → eqb kind 8 ≡ false = λ n h e. rw (eqb-true kind n e) h in
      on (Within m) (eqb kind 1) (λ e. found_within (other 1 refl e))
      (λ e. on (Within m) (eqb kind 2) (λ e. poll_within (other 2 refl e))
      (λ e. on (Within m) (eqb kind 3) (λ e. listen_within (other 3 refl e))
      (λ e. on (Within m) (eqb kind 4) (λ e. on (Within m) (eqb (length m) 1) (λ x. other 4 refl e) (λ x. tt))
      (λ e. on (Within m) (eqb kind 5) (λ e. on (Within m) (eqb (length m) 1) (λ x. other 5 refl e) (λ x. tt))
      (λ e. on (Within m) (eqb kind 6) (λ e. on (Within m) (eqb (length m) 1) (λ x. other 6 refl e) (λ x. tt))
      (λ e. on (Within m) (eqb kind 7) (λ e. on (Within m) (eqb (length m) 1) (λ x. other 7 refl e) (λ x. tt))
      (λ e. on (Within m) (eqb kind 8)
      (λ e. on (Within m) (leb (length m) 1025) (λ x. let long = leb-true (length m) 1025 x in (e, simp length-drop (omega arith))) (λ x. tt))
      (λ e. tt))))))))

-- ---- what an event is when it is taken, and what that says of the RF state

found_to_law : (type : ℕ) → is_active (found_to type) ≡ false
found_to_law type = on (λ (rf : Rf). is_active rf ≡ false) (eqb type 2) (λ e. refl) (λ e. refl)

-- each event is refused, or is the one thing that it can be: an endpoint found, or a selection that failed, moves between states that
-- are not active, and an activation leaves one
module _ (P : Option Aired → Type 0) (no-event : P None) where
  pub found_by_law : (rf : Rf) (ps : Pairs) (a : Activation) (type : ℕ)
      → (is_active rf ≡ false → (next : Rf) (l : Listing) → is_active next ≡ false → P (Some (Goes next l))) → P (found_by rf ps a type)
  unfolding found_by
  found_by_law Idle ps a type f = no-event
  found_by_law Discovery ps a type f = on P (eqb type 2) (λ e. f refl W4AllDiscoveries (Starts (pair_of a)) refl) (λ e. no-event)
  found_by_law W4AllDiscoveries ps a type f = on P (no_room ps (pair_of a) type) (λ e. no-event) (λ e. f refl (found_to type) (Adds (pair_of a)) (found_to_law type))
  found_by_law (W4HostSelect s) ps a type f = no-event
  found_by_law (PollActive b) ps a type f = no-event
  found_by_law (ListenActive b) ps a type f = no-event
  found_by_law ListenSleep ps a type f = no-event

  pub poll_by_law : (rf : Rf) (a : Activation) → (is_active rf ≡ false → (l : Listing) → P (Some (Activates (PollActive a) l))) → P (poll_by rf a)
  unfolding poll_by
  poll_by_law Idle a f = no-event
  poll_by_law Discovery a f = f refl (Starts (pair_of a))
  poll_by_law W4AllDiscoveries a f = no-event
  poll_by_law (W4HostSelect None) a f = no-event
  poll_by_law (W4HostSelect (Some p)) a f = on P (same_pair p (pair_of a)) (λ e. f refl Keeps) (λ e. no-event)
  poll_by_law (PollActive b) a f = no-event
  poll_by_law (ListenActive b) a f = no-event
  poll_by_law ListenSleep a f = no-event

  pub listen_by_law : (rf : Rf) (a : Activation) → (is_active rf ≡ false → (l : Listing) → P (Some (Activates (ListenActive a) l))) → P (listen_by rf a)
  unfolding listen_by
  listen_by_law Idle a f = no-event
  listen_by_law Discovery a f = f refl Keeps
  listen_by_law W4AllDiscoveries a f = no-event
  listen_by_law (W4HostSelect s) a f = no-event
  listen_by_law (PollActive b) a f = no-event
  listen_by_law (ListenActive b) a f = no-event
  listen_by_law ListenSleep a f = f refl Keeps

  pub failed_by_law : (rf : Rf) → (is_active rf ≡ false → (next : Rf) (l : Listing) → is_active next ≡ false → P (Some (Goes next l))) → P (failed_by rf)
  unfolding failed_by
  failed_by_law Idle f = no-event
  failed_by_law Discovery f = no-event
  failed_by_law W4AllDiscoveries f = no-event
  failed_by_law (W4HostSelect None) f = no-event
  failed_by_law (W4HostSelect (Some p)) f = f refl (W4HostSelect None) Keeps refl
  failed_by_law (PollActive b) f = no-event
  failed_by_law (ListenActive b) f = no-event
  failed_by_law ListenSleep f = no-event

-- an activation comes in a state that is not active, a deactivation leads to one, and the endpoint speaks in an active one
abbrev pub AirLegal : Rf → Option Aired → Type 0
AirLegal rf None = Unit {0}
AirLegal rf (Some (Goes next l)) = (is_active rf ≡ false) × (is_active next ≡ false)
AirLegal rf (Some (Activates next l)) = (is_active rf ≡ false) × (is_active next ≡ true)
AirLegal rf (Some (Ends next)) = is_active next ≡ false
AirLegal rf (Some Speaks) = is_active rf ≡ true

pub aired_legal : (rf : Rf) (ps : Pairs) (e : Option Event) → AirLegal rf (aired_by rf ps e)
unfolding aired_by
aired_legal rf ps None = tt
aired_legal rf ps (Some (Found a type)) = found_by_law (AirLegal rf) tt rf ps a type (λ h next l k. (h, k))
aired_legal rf ps (Some (Poll a)) = poll_by_law (AirLegal rf) tt rf a (λ h l. (h, refl))
aired_legal rf ps (Some (Listen a)) = listen_by_law (AirLegal rf) tt rf a (λ h l. (h, refl))
aired_legal rf ps (Some Failed) = failed_by_law (AirLegal rf) tt rf (λ h next l k. (h, k))
aired_legal rf ps (Some Sleeps) = on (AirLegal rf) (is_listening rf) (λ e. refl) (λ e. tt)
aired_legal rf ps (Some LinkLost) = on (AirLegal rf) (is_listening rf || is_asleep rf) (λ e. refl) (λ e. tt)
aired_legal rf ps (Some Releases) = on (AirLegal rf) (is_listening rf) (λ e. refl) (λ e. tt)
aired_legal rf ps (Some Endpoint) = on (AirLegal rf) (is_active rf) (λ e. e) (λ e. tt)

-- ---- the controller's numbers after an event

listed_pairs : (ps : Pairs) (l : Listing) → ps.count ≤ 8 → length ps.list ≡ 8 → ((listed_after ps l).count ≤ 8) × (length (listed_after ps l).list ≡ 8)
unfolding added_to
listed_pairs ps Keeps h e = (h, e)
listed_pairs ps (Starts p) h e = (omega arith, refl)
listed_pairs ps (Adds p) h e =
    on (λ (x : Pairs). (x.count ≤ 8) × (length x.list ≡ 8)) (ltb ps.count 8)
    (λ z. let low = ltb-true ps.count 8 z in (omega arith, length-set ps.list ps.count p ∙ e)) (λ z. (h, e))

pub aired_steady : (k : Controller) (a : Option Aired) → Steady k → Steady (controller_aired k a)
unfolding controller_aired
aired_steady k None m = m
aired_steady k (Some (Goes rf l)) m = let q = listed_pairs k.pairs l m.pairs m.places in record { given = m.given; pairs = q.0; places = q.1 }
aired_steady k (Some (Activates rf l)) m = let q = listed_pairs k.pairs l m.pairs m.places in record { given = m.given; pairs = q.0; places = q.1 }
aired_steady k (Some (Ends rf)) m = record { given = m.given; pairs = m.pairs; places = m.places }
aired_steady k (Some Speaks) m = m
