-- send: a message is put in hand.
-- Assumes nothing.
use Rattle.std.specs.Prelude.{ℕ, not, ◌||◌, List, [], ◌∷◌, ltb, length}
use Rattle.octets.specs.Octets.{Octets}
use Rattle.dh.specs.Host.{is_closing}
use Rattle.model.specs.Connection.{with_host, sent}
use Rattle.model.specs.State.{State, at, with_conns}
use Rattle.model.specs.Effects.{Effect, quiet}
use Rattle.model.specs.Refusals.{Rule, rule, is_nil, no_conn, is_held}

abbrev pub sending : ℕ → Octets → State → Effect
sending c m s = quiet (with_conns (at c (λ k. with_host (sent m k.host) k) s.conns) s)

-- ---- refusals

abbrev pub send_rules : ℕ → Octets → State → List Rule
send_rules c m s =
    rule 3 (no_conn c || ltb 1024 (length m))
    ∷ rule 15 (is_closing s.host.pending)
    ∷ rule 6 (not (is_held s c))
    ∷ rule 7 (not (is_nil (s.conns c).host.hand))
    ∷ []
