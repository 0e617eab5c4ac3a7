-- push: the next segment of the message in hand goes down, and a credit is spent if flow-controlled.
-- Assumes nothing.
use Rattle.std.specs.Prelude.{ℕ, not, ◌&&◌, List, [], ◌∷◌, eqb}
use Rattle.packets.specs.Segments.{Segment, segment_packet}
use Rattle.state.specs.Conn.{flows}
use Rattle.model.specs.Connection.{with_host, pushed}
use Rattle.packets.specs.Headers.{data_header}
use Rattle.model.specs.State.{State, at, with_conns}
use Rattle.model.specs.Effects.{Effect, quiet, putting_down}
use Rattle.model.specs.Refusals.{Rule, rule, is_nil, no_conn, full, is_held}
use Rattle.dh.specs.Host.{is_closing}

abbrev pub pushing : ℕ → List Segment → State → Effect
pushing c [] s = quiet s
pushing c (x ∷ rest) s =
    putting_down (segment_packet (data_header c 0) x ∷ []) (with_conns (at c (λ k. with_host (pushed rest k.host) k) s.conns) s)

-- ---- refusals

abbrev pub push_rules : ℕ → State → List Rule
push_rules c s =
    rule 3 (no_conn c)
    ∷ rule 4 (full 1 s.down)
    ∷ rule 6 (not (is_held s c))
    ∷ rule 8 (is_nil (s.conns c).host.hand)
    ∷ rule 9 (flows (s.conns c).host.grant && eqb (s.conns c).host.held 0)
    ∷ rule 10 (is_closing s.host.pending)
    ∷ []
