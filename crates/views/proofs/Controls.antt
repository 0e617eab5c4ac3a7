-- A control packet joins its run, at either end: the message that it makes whole, and the drop flag.
-- Assumes nothing.
use Prim.Native.Nat.{ℕ, ◌+◌, ◌≤◌}
use mathlib.Core.Path.{◌≡◌, sym, ap, ◌∙◌}
use lib.ListN.{length}
use Rattle.octets.specs.Octets.{Octets, cut}
use Rattle.packets.specs.Segments.{Segment, body, flag}
use Rattle.packets.specs.Reassembly.{Run, finished, flagged}
use Rattle.views.specs.Kinds.{Header, Progress, Joined, ControlRun}
use Rattle.state.specs.Runs.{handed_on, run_for, joined_of, control_joined}
use Rattle.state.proofs.Progress.{run_fits}
use Rattle.area.specs.Map.{control_size}
use Rattle.area.specs.Runs.{run_area}
use Rattle.model.specs.Runs.{whole_by, flag_by}
use Rattle.views.specs.View.{control_run_of}
use Rattle.views.specs.Moves.{RunJoined}
use Rattle.views.proofs.Runs.{run_joined}
use Rattle.views.proofs.Others.{run_for_law}

-- e: the packet's flag is the segment's; k: the run at base
module _ (base : ℕ) (a : Octets) (k : ControlRun) (h : Header) (x : Segment) (e : h.pbf ≡ flag x) (low : k.run.len ≤ control_size) (room : base + control_size ≤ length a) where
  abbrev before : Progress
  before = run_for k h

  joins : RunJoined control_size base a before x (run_area control_size base a before (body x)) (joined_of control_size before (flag x) (length (body x)))
  joins = run_joined control_size base a before x (run_fits k h (length (body x)) low) room

  same : joined_of control_size before (flag x) (length (body x)) ≡ joined_of control_size before h.pbf (length (body x))
  same i = joined_of control_size before (sym e i) (length (body x))

  -- it stands from base on
  pub control_whole : whole_by (control_run_of base a k) h.mt h.id h.oid x
      ≡ handed_on (control_joined k h (length (body x))).done (cut base (before.len + length (body x)) (run_area control_size base a before (body x)))
  unfolding control_joined
  control_whole =
      ap (λ (q : Run). finished control_size q x) (sym (run_for_law base a k h))
      ∙ joins.message
      ∙ (λ i. handed_on (same i).done (cut base (before.len + length (body x)) (run_area control_size base a before (body x))))

  pub control_flag : (control_joined k h (length (body x))).dropped ≡ flag_by (control_run_of base a k) h.mt h.id h.oid x
  unfolding control_joined
  control_flag =
      sym (ap (λ (j : Joined). j.dropped) same)
      ∙ joins.drop
      ∙ ap (λ (q : Run). flagged control_size q x) (run_for_law base a k h)
