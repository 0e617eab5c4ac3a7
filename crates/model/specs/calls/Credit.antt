-- credit: one notice of all that is owed.
-- Assumes nothing.
use Rattle.std.specs.Prelude.{ℕ, Bool, true, false, ◌&&◌, List, [], ◌∷◌, map, eqb}
use Rattle.state.specs.Names.{gid_core, oid_conn_credits}
use Rattle.messages.specs.Layout.{credits_ntf}
use Rattle.model.specs.Connection.{with_controller, owed_on, noticed}
use Rattle.messages.specs.Packets.{notice_packet}
use Rattle.model.specs.State.{State, with_conns}
use Rattle.model.specs.Effects.{Effect, putting_up}
use Rattle.model.specs.Refusals.{Rule, rule, full, ids}

-- what is owed on each connection
abbrev pub owed_by : State → List ℕ
owed_by s = map (λ (c : ℕ). owed_on (s.conns c).controller) ids

unfoldable pub all_zero : List ℕ → Bool
all_zero [] = true
all_zero (n ∷ ns) = eqb n 0 && all_zero ns

abbrev pub crediting : State → Effect
crediting s =
    putting_up false (notice_packet (record { gid = gid_core; oid = oid_conn_credits; payload = credits_ntf (owed_by s) }) ∷ []) []
    (with_conns (λ d. with_controller (noticed (s.conns d).controller) (s.conns d)) s)

-- ---- refusals

abbrev pub credit_rules : State → List Rule
credit_rules s = rule 4 (full 1 s.up) ∷ rule 8 (all_zero (owed_by s)) ∷ []
