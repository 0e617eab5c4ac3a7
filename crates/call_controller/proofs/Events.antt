-- The tests of air's rules on the event itself, where the rules name the number of its kind.
-- Assumes nothing.
use Rattle.std.specs.Prelude.{Option, Some, None, is_none}
use mathlib.Core.Path.{◌≡◌, refl, sym, ap, ◌∙◌}
use mathlib.Core.Bool.{Bool, true, false, not, ◌&&◌, ◌||◌}
use mathlib.Core.List.{List, [], ◌∷◌}
use lib.Dec.{leb, eqb}
use Rattle.octets.specs.Octets.{Octets}
use Rattle.air.specs.declared.events.Event.{Event}
use Rattle.air.specs.declared.events.Event.TheVariants.{Found, Poll, Listen, Failed, Sleeps, LinkLost, Releases, Endpoint}
use Rattle.air.specs.Air.{event_of, kind_of, is_refused}
use Rattle.ends.specs.Steps.{aired_in}
use Rattle.area.specs.Map.{wire_slots}
use Rattle.calls.specs.Kinds.{Record}
use Rattle.model.specs.Refusals.{Rule, rule}
use Rattle.views.specs.View.{view}
use Rattle.model.specs.calls.Air.{air_rules}
use Rattle.calls.proofs.Air.{air_tests, air_tests_law}

no_kind : (e : Option Event) → eqb (kind_of e) 0 ≡ is_none e
no_kind None = refl
no_kind (Some (Found a type)) = refl
no_kind (Some (Poll a)) = refl
no_kind (Some (Listen a)) = refl
no_kind (Some Failed) = refl
no_kind (Some Sleeps) = refl
no_kind (Some LinkLost) = refl
no_kind (Some Releases) = refl
no_kind (Some Endpoint) = refl

-- an event is notified, or is the endpoint's message
told_kind : (e : Option Event) → (leb 1 (kind_of e) && leb (kind_of e) 7) ≡ (not (is_none e) && not (eqb (kind_of e) 8))
told_kind None = refl
told_kind (Some (Found a type)) = refl
told_kind (Some (Poll a)) = refl
told_kind (Some (Listen a)) = refl
told_kind (Some Failed) = refl
told_kind (Some Sleeps) = refl
told_kind (Some LinkLost) = refl
told_kind (Some Releases) = refl
told_kind (Some Endpoint) = refl

both : (a b c d : Bool) → (a && b) ≡ (c && d) → (t : Bool) → (a && b && t) ≡ (c && d && t)
both true b true d h t = ap (λ (x : Bool). x && t) h
both true b false d h t = ap (λ (x : Bool). x && t) h
both false b true d h t = ap (λ (x : Bool). x && t) h
both false b false d h t = refl

abbrev pub event_tests : Record → Option Event → List Rule
event_tests r e =
    rule 3 (is_none e)
    ∷ rule 4 (not (is_none e) && not (eqb (kind_of e) 8) && leb wire_slots r.up.count)
    ∷ rule 7 (eqb (kind_of e) 8 && r.ends.endpoint.full)
    ∷ rule 11 (is_refused (aired_in r.ends e))
    ∷ rule 14 ((eqb (kind_of e) 2 || eqb (kind_of e) 3) && (not (eqb r.down.count 0) || not (eqb r.up.count 0)))
    ∷ []

tests_law : (r : Record) (m : Octets) → air_tests r m ≡ event_tests r (event_of m)
tests_law r m i =
    let e = event_of m in
    let full = leb wire_slots r.up.count in
    rule 3 (no_kind e i)
    ∷ rule 4 (both (leb 1 (kind_of e)) (leb (kind_of e) 7) (not (is_none e)) (not (eqb (kind_of e) 8)) (told_kind e) full i)
    ∷ rule 7 (eqb (kind_of e) 8 && r.ends.endpoint.full)
    ∷ rule 11 (is_refused (aired_in r.ends e))
    ∷ rule 14 ((eqb (kind_of e) 2 || eqb (kind_of e) 3) && (not (eqb r.down.count 0) || not (eqb r.up.count 0)))
    ∷ []

pub event_law : (a : Octets) (r : Record) (m : Octets) (e : Option Event) → e ≡ event_of m → air_rules m (view a r) ≡ event_tests r e
event_law a r m e h = air_tests_law a r m ∙ tests_law r m ∙ ap (event_tests r) (sym h)
