-- Control runs at either end: which run a packet joins, and what it makes of it.
-- Assumes nothing.
use Rattle.std.specs.Prelude.{ℕ, Bool, ◌&&◌, List, [], eqb}
use Rattle.octets.specs.Octets.{Octets, pick}
use Rattle.packets.specs.Segments.{Segment}
use Rattle.packets.specs.Reassembly.{Run, run, grown, finished, flagged}
use Rattle.state.specs.Runs.{control_limit}
use Rattle.model.specs.State.{ControlRun}

abbrev pub same_run : ControlRun → ℕ → ℕ → ℕ → Bool
same_run r mt gid oid = eqb r.mt mt && eqb r.gid gid && eqb r.oid oid

-- another MT, GID or OID starts a new run
abbrev pub run_for : ControlRun → ℕ → ℕ → ℕ → Run
run_for r mt gid oid = pick (same_run r mt gid oid) r.run (run [])

abbrev pub run_after : ControlRun → ℕ → ℕ → ℕ → Segment → ControlRun
run_after r mt gid oid x = record { mt = mt; gid = gid; oid = oid; run = grown control_limit (run_for r mt gid oid) x }

-- the whole message that a packet finishes, or none
abbrev pub whole_by : ControlRun → ℕ → ℕ → ℕ → Segment → List Octets
whole_by r mt gid oid x = finished control_limit (run_for r mt gid oid) x

abbrev pub flag_by : ControlRun → ℕ → ℕ → ℕ → Segment → Bool
flag_by r mt gid oid x = flagged control_limit (run_for r mt gid oid) x
