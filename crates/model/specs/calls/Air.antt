-- air: an event of the RF field.
-- Assumes nothing.
use Rattle.std.specs.Prelude.{ℕ, false, not, ◌&&◌, ◌||◌, List, [], ◌∷◌, eqb, leb, drop, Option, Some, None}
use Rattle.octets.specs.Octets.{Octets}
use Rattle.packets.specs.Segments.{segments}
use Rattle.model.specs.Kinds.{Terms, Event, Aired}
use Rattle.model.specs.Kinds.aired.{Goes, Activates, Ends, Speaks}
use Rattle.state.specs.Conn.{terms_of}
use Rattle.air.specs.Air.{event_of, kind_of, aired_by, is_refused, air_message, controller_aired}
use Rattle.model.specs.Connection.{Connection, with_controller, spoken}
use Rattle.messages.specs.Packets.{notice_packets}
use Rattle.model.specs.State.{State, at, with_conns, with_controller_state}
use Rattle.model.specs.Effects.{Effect, putting_up}
use Rattle.model.specs.Refusals.{Rule, rule, is_nil, full}
use Rattle.ends.specs.Changes.{change_aired}
use Rattle.model.specs.Changes.{at_controller}

abbrev pub airing : State → Octets → Option Aired
airing s m = aired_by s.controller.rf s.controller.pairs (event_of m)

-- the controller's connections after an event: an activation opens 0, a deactivation closes it, and a message of the endpoint is cut at 255
abbrev pub aired_conns : Terms → Option Aired → Octets → (ℕ → Connection) → ℕ → Connection
aired_conns t None m g = g
aired_conns t (Some (Goes rf l)) m g = λ d. with_controller (at_controller (change_aired t (Some (Goes rf l)) d) (g d).controller) (g d)
aired_conns t (Some (Activates rf l)) m g = λ d. with_controller (at_controller (change_aired t (Some (Activates rf l)) d) (g d).controller) (g d)
aired_conns t (Some (Ends rf)) m g = λ d. with_controller (at_controller (change_aired t (Some (Ends rf)) d) (g d).controller) (g d)
aired_conns t (Some Speaks) m g = at 0 (λ k. with_controller (spoken (segments 255 (drop 1 m)) k.controller) k) g

abbrev pub airing_as : Option Event → Option Aired → Octets → State → Effect
airing_as e a m s =
    putting_up false (notice_packets (air_message s.profile e m)) []
    (with_controller_state (controller_aired s.controller a) (with_conns (aired_conns (terms_of s.profile 0) a m s.conns) s))

-- ---- refusals

abbrev pub air_rules : Octets → State → List Rule
air_rules m s =
    let kind = kind_of (event_of m) in
    rule 3 (eqb kind 0)
    ∷ rule 4 (leb 1 kind && leb kind 7 && full 1 s.up)
    ∷ rule 7 (eqb kind 8 && not (is_nil (s.conns 0).controller.speech))
    ∷ rule 11 (is_refused (airing s m))
    ∷ rule 14 ((eqb kind 2 || eqb kind 3) && (not (is_nil s.down) || not (is_nil s.up)))
    ∷ []
