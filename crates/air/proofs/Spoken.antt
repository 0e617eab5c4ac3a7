-- Kind 8 and the others: the endpoint's message is taken in, and any other event is notified.
-- Assumes nothing.
use Rattle.std.specs.Prelude.{Option, Some, None}
use Prim.Native.Nat.{◌≤◌}
use native.Mathlib.Omega.{arith}
use mathlib.Core.Path.{◌≡◌, refl, sym}
use mathlib.Core.Bool.{true, false, ◌&&◌, ◌||◌, false≢true}
use lib.Dec.{eqb, leb}
use lib.ListN.{length, drop}
use borrow.Author.Tests.{ne_eqb}
use Rattle.octets.specs.Octets.{Octets}
use Rattle.air.specs.Kinds.{Profile, Pairs, Rf, Event, Aired}
use Rattle.air.specs.Kinds.event.{Found, Poll, Listen, Failed, Sleeps, LinkLost, Releases, Endpoint}
use Rattle.air.specs.Kinds.aired.{Goes, Activates, Ends, Speaks}
use Rattle.state.specs.Radio.{is_active, is_listening, is_asleep}
use Rattle.state.proofs.Chains.{on}
use Rattle.air.specs.Air.{event_of, kind_of, aired_by, is_refused, air_message}
use Rattle.air.proofs.Taken.{Within, event_within, found_by_law, poll_by_law, listen_by_law, failed_by_law}

-- the kinds that are notified are 1 to 7
pub kind_told : (e : Option Event) → eqb (kind_of e) 0 ≡ false → eqb (kind_of e) 8 ≡ false → (leb 1 (kind_of e) && leb (kind_of e) 7) ≡ true
kind_told None h k = absurd (false≢true (sym h))
kind_told (Some (Found a type)) h k = refl
kind_told (Some (Poll a)) h k = refl
kind_told (Some (Listen a)) h k = refl
kind_told (Some Failed) h k = refl
kind_told (Some Sleeps) h k = refl
kind_told (Some LinkLost) h k = refl
kind_told (Some Releases) h k = refl
kind_told (Some Endpoint) h k = absurd (false≢true (sym k))

-- the endpoint's message has at most as many octets as a message can have
pub spoken_short : (m : Octets) → eqb (kind_of (event_of m)) 8 ≡ true → length (drop 1 m) ≤ 1024
spoken_short m k = go (event_of m) (event_within m) k
  where
    go : (e : Option Event) → Within m e → eqb (kind_of e) 8 ≡ true → length (drop 1 m) ≤ 1024
    go None w k = absurd (false≢true k)
    go (Some (Found a type)) w k = absurd (false≢true k)
    go (Some (Poll a)) w k = absurd (false≢true k)
    go (Some (Listen a)) w k = absurd (false≢true k)
    go (Some Failed) w k = absurd (false≢true k)
    go (Some Sleeps) w k = absurd (false≢true k)
    go (Some LinkLost) w k = absurd (false≢true k)
    go (Some Releases) w k = absurd (false≢true k)
    go (Some Endpoint) w k = w.1

-- ---- an event that is taken

-- the endpoint speaks where the kind is 8, and only there
abbrev pub Spoken : Option Event → Option Aired → Type 0
Spoken e None = Unit {0}
Spoken e (Some (Goes rf l)) = eqb (kind_of e) 8 ≡ false
Spoken e (Some (Activates rf l)) = eqb (kind_of e) 8 ≡ false
Spoken e (Some (Ends rf)) = eqb (kind_of e) 8 ≡ false
Spoken e (Some Speaks) = eqb (kind_of e) 8 ≡ true

pub aired_spoken : (rf : Rf) (ps : Pairs) (e : Option Event) → Spoken e (aired_by rf ps e)
unfolding aired_by
aired_spoken rf ps None = tt
aired_spoken rf ps (Some (Found a type)) = found_by_law (Spoken (Some (Found a type))) tt rf ps a type (λ h next l k. refl)
aired_spoken rf ps (Some (Poll a)) = poll_by_law (Spoken (Some (Poll a))) tt rf a (λ h l. refl)
aired_spoken rf ps (Some (Listen a)) = listen_by_law (Spoken (Some (Listen a))) tt rf a (λ h l. refl)
aired_spoken rf ps (Some Failed) = failed_by_law (Spoken (Some Failed)) tt rf (λ h next l k. refl)
aired_spoken rf ps (Some Sleeps) = on (Spoken (Some Sleeps)) (is_listening rf) (λ e. refl) (λ e. tt)
aired_spoken rf ps (Some LinkLost) = on (Spoken (Some LinkLost)) (is_listening rf || is_asleep rf) (λ e. refl) (λ e. tt)
aired_spoken rf ps (Some Releases) = on (Spoken (Some Releases)) (is_listening rf) (λ e. refl) (λ e. tt)
aired_spoken rf ps (Some Endpoint) = on (Spoken (Some Endpoint)) (is_active rf) (λ e. refl) (λ e. tt)

-- octets that are no event are not taken
pub taken_known : (rf : Rf) (ps : Pairs) (e : Option Event) → is_refused (aired_by rf ps e) ≡ false → eqb (kind_of e) 0 ≡ false
unfolding aired_by
taken_known rf ps None t = absurd (false≢true (sym t))
taken_known rf ps (Some (Found a type)) t = refl
taken_known rf ps (Some (Poll a)) t = refl
taken_known rf ps (Some (Listen a)) t = refl
taken_known rf ps (Some Failed) t = refl
taken_known rf ps (Some Sleeps) t = refl
taken_known rf ps (Some LinkLost) t = refl
taken_known rf ps (Some Releases) t = refl
taken_known rf ps (Some Endpoint) t = refl

-- ---- its notification

-- there is one, but of kind 8
pub notified : (p : Profile) (e : Option Event) (m : Octets) → eqb (kind_of e) 0 ≡ false → eqb (length (air_message p e m).payload) 0 ≡ eqb (kind_of e) 8
unfolding air_message
notified p None m h = absurd (false≢true (sym h))
notified p (Some (Found a type)) m h = ne_eqb (length (air_message p (Some (Found a type)) m).payload) 0 (λ e. omega arith)
notified p (Some (Poll a)) m h = ne_eqb (length (air_message p (Some (Poll a)) m).payload) 0 (λ e. omega arith)
notified p (Some (Listen a)) m h = ne_eqb (length (air_message p (Some (Listen a)) m).payload) 0 (λ e. omega arith)
notified p (Some Failed) m h = refl
notified p (Some Sleeps) m h = refl
notified p (Some LinkLost) m h = refl
notified p (Some Releases) m h = refl
notified p (Some Endpoint) m h = refl
