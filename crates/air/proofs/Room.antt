-- Laws of the events of the air: the notification of an event that was read is within the longest control message, whatever the octets were.
-- Assumes nothing.
use Rattle.std.specs.Prelude.{Option, Some, None}
use Prim.Native.Nat.{ℕ, ◌≤◌}
use mathlib.Core.Path.{◌≡◌, sym, subst}
use mathlib.Core.Bool.{Bool, true, false}
use mathlib.Core.List.{[], ◌∷◌}
use native.Mathlib.Omega.{arith}
use lib.ListN.{length, get_or, length-append, length-drop}
use lib.Dec.{eqb, leb}
use borrow.Author.Tests.{leb-true}
use Rattle.octets.specs.Octets.{Octets, pick}
use Rattle.air.specs.Kinds.{Profile, Event}
use Rattle.air.specs.Kinds.event.{Found, Poll, Listen, Failed, Sleeps, LinkLost, Releases, Endpoint}
use Rattle.state.specs.Runs.{control_limit}
use Rattle.state.specs.Radio.{polls, listens, id_ok}
use Rattle.air.specs.Air.{target_of, found_in, active_in, poll_in, listen_in, event_of, air_message}
use Rattle.state.proofs.Chains.{every_at, pick_by}

-- ---- the notification of an event that was read

-- it fits a packet
record Short (p : Profile) (m : Octets) (e : Option Event) : Type 0 where
  short : length (air_message p e m).payload ≤ control_limit

module _ (p : Profile) (m : Octets) where
  found_short : Short p m (found_in m)
  unfolding found_in air_message
  found_short =
      pick_by (Short p m) _ (Some (Found (target_of m) (get_or m 4 0))) None
      (λ h.
      let n : length m ≤ 37 =
      leb-true (length m) 37
      (every_at (leb 5 (length m)) (leb (length m) 37 ∷ id_ok (get_or m 1 0) ∷ polls (get_or m 3 0) ∷ leb (get_or m 4 0) 2 ∷ []) h 1) in
      record { short = simp (length-append, length-drop) (omega arith) })
      (omega arith)

  active_short : (b : Bool) (e : Event) → (length m ≤ 36 → Short p m (Some e)) → Short p m (active_in m b e)
  unfolding air_message
  active_short b e f =
      pick_by (Short p m) _ (Some e) None
      (λ h. f (leb-true (length m) 36 (every_at (leb 4 (length m)) (leb (length m) 36 ∷ id_ok (get_or m 1 0) ∷ b ∷ []) h 1)))
      (omega arith)

  poll_short : Short p m (poll_in m)
  unfolding poll_in air_message
  poll_short = active_short (polls (get_or m 3 0)) (Poll (target_of m)) (λ n. record { short = simp (length-append, length-drop) (omega arith) })

  listen_short : Short p m (listen_in m)
  unfolding listen_in air_message
  listen_short = active_short (listens (get_or m 3 0)) (Listen (target_of m)) (λ n. record { short = simp (length-append, length-drop) (omega arith) })

  or : (b : Bool) {x y : Option Event} → Short p m x → Short p m y → Short p m (pick b x y)
  or true h k = h
  or false h k = k

  short : Short p m (event_of m)
  unfolding event_of air_message
  short =
      let kind : ℕ → Bool = λ k. eqb (get_or m 0 0) k in
      let alone : Bool = eqb (length m) 1 in
      let bad : Short p m None = omega arith in
      let failed : Short p m (Some Failed) = omega arith in
      let sleeps : Short p m (Some Sleeps) = omega arith in
      let lost : Short p m (Some LinkLost) = omega arith in
      let releases : Short p m (Some Releases) = omega arith in
      let endpoint : Short p m (Some Endpoint) = omega arith in
      or (kind 1) found_short
      (or (kind 2) poll_short
      (or (kind 3) listen_short
      (or (kind 4) (or alone failed bad)
      (or (kind 5) (or alone sleeps bad)
      (or (kind 6) (or alone lost bad)
      (or (kind 7) (or alone releases bad)
      (or (kind 8) (or (leb (length m) 1025) endpoint bad) bad)))))))

  pub message_short : length (air_message p (event_of m) m).payload ≤ control_limit
  message_short = short.short

-- what a caller of `air_message` shows of an event that it has read
pub event_room : (p : Profile) (m : Octets) (e : Option Event) → e ≡ event_of m → length (air_message p e m).payload ≤ control_limit
event_room p m e q = subst (λ (x : Option Event). length (air_message p x m).payload ≤ control_limit) (sym q) (message_short p m)
