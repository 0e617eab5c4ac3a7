-- reply: the next segment of the endpoint's message goes up on connection 0, with the credits that it carries (003, 3.4.3).
-- Assumes nothing.
use Rattle.std.specs.Prelude.{false, List, [], ◌∷◌}
use Rattle.packets.specs.Segments.{Segment, segment_packet}
use Rattle.model.specs.Connection.{with_controller, carried_on, paid, spoken}
use Rattle.packets.specs.Headers.{data_header}
use Rattle.model.specs.State.{State, at, with_conns}
use Rattle.model.specs.Effects.{Effect, quiet, putting_up}
use Rattle.model.specs.Refusals.{Rule, rule, is_nil, full}

abbrev pub replying : List Segment → State → Effect
replying [] s = quiet s
replying (x ∷ rest) s =
    putting_up false (segment_packet (data_header 0 (carried_on (s.conns 0).controller)) x ∷ []) []
    (with_conns (at 0 (λ k. with_controller (paid (spoken rest k.controller)) k) s.conns) s)

-- ---- refusals

abbrev pub reply_rules : State → List Rule
reply_rules s = rule 4 (full 1 s.up) ∷ rule 8 (is_nil (s.conns 0).controller.speech) ∷ []
