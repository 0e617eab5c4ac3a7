-- What a packet that is taken leaves within limits: the ring that it was in, and the control run that it joined.
-- Assumes nothing.
use Prim.Native.Nat.{ℕ, ◌≤◌}
use native.Mathlib.Omega.{arith}
use Rattle.octets.specs.Octal.{Octal, octal_cons}
use Rattle.record.specs.Kinds.{Ring, ControlRun}
use Rattle.state.specs.Kinds.{Header}
use Rattle.state.specs.Runs.{control_limit, run_for, joined_of, control_joined}
use Rattle.area.specs.Map.{wire_slots}
use Rattle.area.specs.Ring.{took_from}
use Rattle.record.specs.Writing.{control_run_octets}
use Rattle.record.specs.Fit.{FitRing}
use Rattle.record.proofs.Small.{octal_progress}

pub wire_took : (k : Ring) → FitRing wire_slots k → FitRing wire_slots (took_from wire_slots k)
wire_took k f = record { head = omega arith; count = omega (arith, f.count) }

-- the message that a run is of is that of its packet's header
pub control_octal : (k : ControlRun) (h : Header) (n : ℕ) → h.mt ≤ 255 → h.id ≤ 255 → h.oid ≤ 255 → Octal (control_run_octets (control_joined k h n).next)
unfolding control_joined control_run_octets
control_octal k h n mt id oid =
    octal_cons mt (octal_cons id (octal_cons oid (octal_progress (joined_of control_limit (run_for k h) h.pbf n).next)))
