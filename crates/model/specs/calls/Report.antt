-- report: five numbers of a connection.
-- Assumes nothing.
use Rattle.std.specs.Prelude.{ℕ, false, not, List, [], ◌∷◌, length}
use Rattle.octets.specs.Octets.{Octets, pick}
use Rattle.state.specs.Conn.{flows}
use Rattle.model.specs.Connection.{HostEnd, owed_on}
use Rattle.wires.specs.Tally.{data_count}
use Rattle.wires.specs.Counted.{counted_up}
use Rattle.model.specs.State.{State, is_open}
use Rattle.model.specs.Effects.{Effect}
use Rattle.model.specs.Refusals.{Rule, rule, no_conn}

-- "0 while it hasn't the connection open", whatever the field says
abbrev pub held_by : HostEnd → ℕ
held_by h = pick h.opened h.held 0

-- credits held, packets on the down wire, packets stored, credits owed, credits on the up wire (n); without flow control 255, and 0 for the last two
abbrev pub five_of : ℕ → State → ℕ → Octets
five_of c s n =
    pick (flows (s.conns c).controller.grant) (held_by (s.conns c).host) 255
    ∷ data_count c s.down
    ∷ length (s.conns c).controller.store
    ∷ owed_on (s.conns c).controller
    ∷ pick (flows (s.conns c).controller.grant) n 0
    ∷ []

abbrev pub report_of : ℕ → State → Octets
report_of c s = five_of c s (counted_up c s.up)

abbrev pub reporting : ℕ → State → Effect
reporting c s = record { drop = false; rfu = 0; to_down = []; to_up = []; message = report_of c s ∷ []; next = s }

-- ---- refusals

abbrev pub report_rules : ℕ → State → List Rule
report_rules c s = rule 3 (no_conn c) ∷ rule 6 (not (is_open s c)) ∷ []
