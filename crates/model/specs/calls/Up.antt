-- up: the host takes the first up packet, hands out a finished data message and hears a control message when it is whole.
-- Assumes nothing.
use Rattle.std.specs.Prelude.{ℕ, Bool, true, List, [], ◌∷◌, eqb}
use Rattle.octets.specs.Octets.{Octets, pick}
use Rattle.packets.specs.Types.{mt_command}
use Rattle.packets.specs.Segments.{Segment}
use Rattle.packets.specs.Reassembly.{finished, flagged}
use Rattle.model.specs.Kinds.{Heard}
use Rattle.state.specs.Runs.{data_limit}
use Rattle.dh.specs.Host.{hear_of, host_after, drop_heard}
use Rattle.model.specs.Connection.{with_host, heard_data, credited}
use Rattle.wires.specs.Meaning.{Meaning, datum, control, junk, meaning}
use Rattle.model.specs.State.{State, at, with_conns, with_up, with_host_state, with_hearing}
use Rattle.model.specs.Effects.{Effect, quiet, flagged_as}
use Rattle.model.specs.Refusals.{Rule, rule, is_nil, is_held}
use Rattle.model.specs.Runs.{run_after, whole_by, flag_by}
use Rattle.ends.specs.Changes.{change_heard}
use Rattle.model.specs.Changes.{at_host}

-- a finished data message is handed out, and the credits that the packet carries are held; data for a connection not open at the host
-- is dropped, its credits with it
abbrev pub receiving : ℕ → ℕ → Segment → State → Effect
receiving c n x s =
    pick (is_held s c)
    (record {
      drop = flagged data_limit (s.conns c).host.run x;
      rfu = 0;
      to_down = [];
      to_up = [];
      message = finished data_limit (s.conns c).host.run x;
      next = with_conns (at c (λ k. with_host (heard_data x (credited n k.host)) k) s.conns) s;
    })
    (flagged_as true s)

-- the drop flag of what was heard: an entry of a notice for a connection that is not open sets it too
abbrev pub drop_of : State → Octets → Heard → Bool
drop_of s m h = drop_heard (is_held s) m h

abbrev pub understanding : Heard → Octets → State → Effect
understanding h m s =
    flagged_as (drop_of s m h)
    (with_host_state (host_after s.host h)
    (with_conns (λ d. with_host (at_host (change_heard h m d) (s.conns d).host) (s.conns d)) s))

abbrev pub hearing : ℕ → ℕ → ℕ → List Octets → Bool → State → Effect
hearing mt gid oid [] b s = flagged_as b s
hearing mt gid oid (m ∷ ms) b s = understanding (hear_of s.host.pending mt gid oid m) m s

abbrev pub heard : ℕ → ℕ → ℕ → Segment → State → Effect
heard mt gid oid x s =
    hearing mt gid oid (whole_by s.hearing mt gid oid x) (flag_by s.hearing mt gid oid x) (with_hearing (run_after s.hearing mt gid oid x) s)

abbrev pub coming : Meaning → State → Effect
coming (datum c n x) s = receiving c n x s
coming (control mt gid oid x) s = pick (eqb mt mt_command) (flagged_as true s) (heard mt gid oid x s)
coming junk s = flagged_as true s

abbrev pub taking_up : List Octets → State → Effect
taking_up [] s = quiet s
taking_up (p ∷ w) s = coming (meaning p) (with_up w s)

-- ---- refusals

abbrev pub up_rules : State → List Rule
up_rules s = rule 8 (is_nil s.up) ∷ []
