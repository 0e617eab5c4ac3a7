-- What an event of the air carries is octets where its own octets are, and so is its notification.
-- Assumes nothing.
use Rattle.std.specs.Prelude.{Option, Some, None}
use Prim.Native.Nat.{ℕ, ◌≤◌}
use native.Mathlib.Omega.{arith}
use mathlib.Core.Bool.{◌&&◌, ◌||◌}
use mathlib.Core.List.{[], ◌∷◌}
use lib.Dec.{eqb, leb}
use lib.ListN.{length, get_or, drop}
use Rattle.std.specs.Prelude.{Some, None}
use Rattle.octets.specs.Octets.{Octets}
use Rattle.octets.specs.Octal.{Octal, octal_nil, octal_cons}
use Rattle.octets.proofs.Octal.{octal_at, octal_append, octal_drop}
use Rattle.air.specs.Kinds.{Profile, Pairs, Activation, Rf, Event, Listing, Aired}
use Rattle.air.specs.Kinds.rf.{Idle, Discovery, W4AllDiscoveries, W4HostSelect, PollActive, ListenActive, ListenSleep}
use Rattle.air.specs.Kinds.event.{Found, Poll, Listen, Failed, Sleeps, LinkLost, Releases, Endpoint}
use Rattle.air.specs.Kinds.listing.{Keeps, Starts, Adds}
use Rattle.air.specs.Kinds.aired.{Goes, Activates, Ends, Speaks}
use Rattle.state.specs.Conn.{terms_of}
use Rattle.state.specs.Radio.{is_active, is_listening, is_asleep, polls, listens, id_ok, pair_of, same_pair}
use Rattle.state.proofs.Chains.{on}
use Rattle.state.proofs.SmallVerdicts.{SmallTerms}
use Rattle.state.proofs.Targets.{SmallPair, SmallTarget, SmallRf}
use Rattle.air.specs.Air.{target_of, found_in, poll_in, listen_in, event_of, no_room, found_by, poll_by, listen_by, failed_by, aired_by, air_message}
use Rattle.air.proofs.Taken.{Within, event_within}

-- ---- an event

abbrev pub SmallEvent : Option Event → Type 0
SmallEvent None = Unit {0}
SmallEvent (Some (Found a type)) = SmallTarget a × (type ≤ 255)
SmallEvent (Some (Poll a)) = SmallTarget a
SmallEvent (Some (Listen a)) = SmallTarget a
SmallEvent (Some Failed) = Unit {0}
SmallEvent (Some Sleeps) = Unit {0}
SmallEvent (Some LinkLost) = Unit {0}
SmallEvent (Some Releases) = Unit {0}
SmallEvent (Some Endpoint) = Unit {0}

module _ (m : Octets) (o : Octal m) where
  target_small : SmallTarget (target_of m)
  target_small = record { id = octal_at o 1; protocol = octal_at o 2; mode = octal_at o 3 }

  pub event_small : SmallEvent (event_of m)
  unfolding event_of found_in poll_in listen_in
  event_small =
      let kind = get_or m 0 0 in
      on SmallEvent (eqb kind 1)
      (λ _. on SmallEvent (leb 5 (length m) && leb (length m) 37 && id_ok (get_or m 1 0) && polls (get_or m 3 0) && leb (get_or m 4 0) 2) (λ _. (target_small, octal_at o 4)) (λ _. tt))
      (λ _. on SmallEvent (eqb kind 2)
      (λ _. on SmallEvent (leb 4 (length m) && leb (length m) 36 && id_ok (get_or m 1 0) && polls (get_or m 3 0)) (λ _. target_small) (λ _. tt))
      (λ _. on SmallEvent (eqb kind 3)
      (λ _. on SmallEvent (leb 4 (length m) && leb (length m) 36 && id_ok (get_or m 1 0) && listens (get_or m 3 0)) (λ _. target_small) (λ _. tt))
      (λ _. on SmallEvent (eqb kind 4) (λ _. on SmallEvent (eqb (length m) 1) (λ _. tt) (λ _. tt))
      (λ _. on SmallEvent (eqb kind 5) (λ _. on SmallEvent (eqb (length m) 1) (λ _. tt) (λ _. tt))
      (λ _. on SmallEvent (eqb kind 6) (λ _. on SmallEvent (eqb (length m) 1) (λ _. tt) (λ _. tt))
      (λ _. on SmallEvent (eqb kind 7) (λ _. on SmallEvent (eqb (length m) 1) (λ _. tt) (λ _. tt))
      (λ _. on SmallEvent (eqb kind 8) (λ _. on SmallEvent (leb (length m) 1025) (λ _. tt) (λ _. tt)) (λ _. tt))))))))

-- ---- what it does

abbrev pub SmallListing : Listing → Type 0
SmallListing Keeps = Unit {0}
SmallListing (Starts p) = SmallPair p
SmallListing (Adds p) = SmallPair p

abbrev pub SmallAired : Option Aired → Type 0
SmallAired None = Unit {0}
SmallAired (Some (Goes rf l)) = SmallRf rf × SmallListing l
SmallAired (Some (Activates rf l)) = SmallRf rf × SmallListing l
SmallAired (Some (Ends rf)) = SmallRf rf
SmallAired (Some Speaks) = Unit {0}

found_small : (rf : Rf) (ps : Pairs) (a : Activation) (type : ℕ) → SmallTarget a → SmallAired (found_by rf ps a type)
unfolding found_by
found_small Idle ps a type s = tt
found_small Discovery ps a type s = on SmallAired (eqb type 2) (λ _. (tt, (s.id, s.protocol))) (λ _. tt)
found_small W4AllDiscoveries ps a type s =
    on SmallAired (no_room ps (pair_of a) type) (λ _. tt) (λ _. (on SmallRf (eqb type 2) (λ _. tt) (λ _. tt), (s.id, s.protocol)))
found_small (W4HostSelect x) ps a type s = tt
found_small (PollActive b) ps a type s = tt
found_small (ListenActive b) ps a type s = tt
found_small ListenSleep ps a type s = tt

poll_small : (rf : Rf) (a : Activation) → SmallTarget a → SmallAired (poll_by rf a)
unfolding poll_by
poll_small Idle a s = tt
poll_small Discovery a s = (s, (s.id, s.protocol))
poll_small W4AllDiscoveries a s = tt
poll_small (W4HostSelect None) a s = tt
poll_small (W4HostSelect (Some p)) a s = on SmallAired (same_pair p (pair_of a)) (λ _. (s, tt)) (λ _. tt)
poll_small (PollActive b) a s = tt
poll_small (ListenActive b) a s = tt
poll_small ListenSleep a s = tt

listen_small : (rf : Rf) (a : Activation) → SmallTarget a → SmallAired (listen_by rf a)
unfolding listen_by
listen_small Idle a s = tt
listen_small Discovery a s = (s, tt)
listen_small W4AllDiscoveries a s = tt
listen_small (W4HostSelect x) a s = tt
listen_small (PollActive b) a s = tt
listen_small (ListenActive b) a s = tt
listen_small ListenSleep a s = (s, tt)

failed_small : (rf : Rf) → SmallAired (failed_by rf)
unfolding failed_by
failed_small Idle = tt
failed_small Discovery = tt
failed_small W4AllDiscoveries = tt
failed_small (W4HostSelect None) = tt
failed_small (W4HostSelect (Some p)) = (tt, tt)
failed_small (PollActive b) = tt
failed_small (ListenActive b) = tt
failed_small ListenSleep = tt

pub aired_small : (rf : Rf) (ps : Pairs) (e : Option Event) → SmallEvent e → SmallAired (aired_by rf ps e)
unfolding aired_by
aired_small rf ps None s = tt
aired_small rf ps (Some (Found a type)) s = found_small rf ps a type s.0
aired_small rf ps (Some (Poll a)) s = poll_small rf a s
aired_small rf ps (Some (Listen a)) s = listen_small rf a s
aired_small rf ps (Some Failed) s = failed_small rf
aired_small rf ps (Some Sleeps) s = on SmallAired (is_listening rf) (λ _. tt) (λ _. tt)
aired_small rf ps (Some LinkLost) s = on SmallAired (is_listening rf || is_asleep rf) (λ _. tt) (λ _. tt)
aired_small rf ps (Some Releases) s = on SmallAired (is_listening rf) (λ _. tt) (λ _. tt)
aired_small rf ps (Some Endpoint) s = on SmallAired (is_active rf) (λ _. tt) (λ _. tt)

-- ---- its notification

module _ (p : Profile) (m : Octets) (o : Octal m) (t : SmallTerms (terms_of p 0)) where
  zeros : Octal (0 ∷ 0 ∷ 0 ∷ [])
  zeros = octal_cons {x = 0} (omega arith) (octal_cons {x = 0} (omega arith) (octal_cons {x = 0} (omega arith) octal_nil))

  activated_octal : (a : Activation) → SmallTarget a → length (drop 4 m) ≤ 32 → Octal (air_message p (Some (Poll a)) m).payload
  unfolding air_message
  activated_octal a s n =
      octal_cons s.id
      (octal_cons {x = 1} (omega arith)
      (octal_cons s.protocol
      (octal_cons s.mode
      (octal_cons t.payload
      (octal_cons t.credits
      (octal_cons {x = length (drop 4 m)} (omega (arith, n))
      (octal_append (octal_drop 4 o) (octal_cons s.mode zeros))))))))

  pair_octal : (x y : ℕ) → x ≤ 3 → y ≤ 3 → Octal (x ∷ y ∷ [])
  pair_octal x y h k = octal_cons {x = x} (omega arith) (octal_cons {x = y} (omega arith) octal_nil)

  message_octal : (e : Option Event) → Within m e → SmallEvent e → Octal (air_message p e m).payload
  unfolding air_message
  message_octal None w s = octal_nil
  message_octal (Some (Found a type)) w s =
      octal_cons s.0.id
      (octal_cons s.0.protocol
      (octal_cons s.0.mode (octal_cons {x = length (drop 5 m)} (omega (arith, w.4)) (octal_append (octal_drop 5 o) (octal_cons s.1 octal_nil)))))
  message_octal (Some (Poll a)) w s = activated_octal a s w.3
  message_octal (Some (Listen a)) w s = activated_octal a s w.3
  message_octal (Some Failed) w s = octal_cons {x = 0xA1} (omega arith) octal_nil
  message_octal (Some Sleeps) w s = pair_octal 1 1 (omega arith) (omega arith)
  message_octal (Some LinkLost) w s = pair_octal 3 2 (omega arith) (omega arith)
  message_octal (Some Releases) w s = pair_octal 3 1 (omega arith) (omega arith)
  message_octal (Some Endpoint) w s = octal_nil

  pub event_octal : Octal (air_message p (event_of m) m).payload
  event_octal = message_octal (event_of m) (event_within m) (event_small m o)
