-- No set or get changes any credits, on octets: the calls are the model's steps, on every area with a good record.
-- Assumes nothing.
use mathlib.Core.Path.{ap, ◌∙◌}
use Rattle.views.specs.View.{view_of}
use Rattle.model.specs.calls.Report.{report_of}
use Rattle.model.specs.ConfigCredits.{CreditsKept}
use Rattle.model.proofs.ConfigCredits.{all_credits_kept}
use Rattle.calls.specs.ConfigCredits.{AlwaysCreditsKept}
use Rattle.calls.proofs.Refine.{ring_puts, ring_along}
use Rattle.calls.proofs.Command.{command_refines}
use Rattle.calls.proofs.Down.{down_refines}
use Rattle.calls.proofs.Up.{up_refines}

pub always_credits_kept : AlwaysCreditsKept
always_credits_kept a out g room c =
    record {
      put = λ gid oid m o e. ap (report_of c) (command_refines gid oid m (ring_puts a) a out o g room (ring_along a)).next ∙ k.put gid oid m e;
      answered = λ p w mt gid oid x d q e. ap (report_of c) (down_refines (ring_puts a) a out g room (ring_along a)).next ∙ k.answered p w mt gid oid x d q e;
      heard = λ p w mt gid oid x u q e. ap (report_of c) (up_refines (ring_puts a) a out g room (ring_along a)).next ∙ k.heard p w mt gid oid x u q e;
    }
  where
    k : CreditsKept (view_of a) c
    k = all_credits_kept (view_of a) c
