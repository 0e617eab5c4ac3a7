-- command: all segments of a command go on the down wire.
-- Assumes nothing.
use Rattle.std.specs.Prelude.{ℕ, ◌||◌, List, [], ◌∷◌, ltb, length, Some}
use Rattle.octets.specs.Octets.{Octets}
use Rattle.packets.specs.Types.{mt_command}
use Rattle.packets.specs.Segments.{segments, packets_of}
use Rattle.dh.specs.Host.{asked_of, is_busy}
use Rattle.packets.specs.Headers.{control_header}
use Rattle.model.specs.State.{State, with_host_state}
use Rattle.model.specs.Effects.{Effect, putting_down}
use Rattle.model.specs.Refusals.{Rule, rule, full}

abbrev pub commanding : ℕ → ℕ → Octets → State → Effect
commanding gid oid m s =
    putting_down (packets_of (control_header mt_command gid oid) s.host.size m)
    (with_host_state (record { size = s.host.size; pending = Some (asked_of gid oid m) }) s)

-- ---- refusals

abbrev pub command_rules : ℕ → ℕ → Octets → State → List Rule
command_rules gid oid m s =
    rule 3 (ltb 15 gid || ltb 63 oid || ltb 255 (length m))
    ∷ rule 4 (full (length (segments s.host.size m)) s.down)
    ∷ rule 5 (is_busy s.host.pending)
    ∷ []
