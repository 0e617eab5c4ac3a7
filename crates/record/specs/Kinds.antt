-- The types that the code of this crate and of those below it declares, in one place. The constructors of an enum stand under its
-- name in small letters, as `rf.Idle`.
-- Assumes nothing.
pub use Rattle.state.specs.declared.kinds.Activation.{Activation}
pub use Rattle.state.specs.declared.kinds.Asked.{Asked}
pub use Rattle.state.specs.declared.kinds.ControlRun.{ControlRun}
pub use Rattle.state.specs.declared.kinds.Controller.{Controller}
pub use Rattle.state.specs.declared.kinds.ControllerSide.{ControllerSide}
pub use Rattle.state.specs.declared.kinds.Counts.{Counts}
pub use Rattle.state.specs.declared.kinds.Ends.{Ends}
pub use Rattle.state.specs.declared.kinds.Hand.{Hand}
pub use Rattle.state.specs.declared.kinds.Host.{Host}
pub use Rattle.state.specs.declared.kinds.HostSide.{HostSide}
pub use Rattle.state.specs.declared.kinds.Pair.{Pair}
pub use Rattle.state.specs.declared.kinds.Pairs.{Pairs}
pub use Rattle.state.specs.declared.kinds.Phase.{Phase}
pub use Rattle.state.specs.declared.kinds.Phase.TheVariants as phase
pub use Rattle.state.specs.declared.kinds.Profile.{Profile}
pub use Rattle.state.specs.declared.kinds.Progress.{Progress}
pub use Rattle.state.specs.declared.kinds.Record.{Record}
pub use Rattle.state.specs.declared.kinds.Rf.{Rf}
pub use Rattle.state.specs.declared.kinds.Rf.TheVariants as rf
pub use Rattle.state.specs.declared.kinds.Ring.{Ring}
pub use Rattle.state.specs.declared.kinds.Terms.{Terms}
pub use Rattle.state.specs.declared.refusal.Refusal.{Refusal}
pub use Rattle.state.specs.declared.refusal.Refusal.TheVariants as refusal
pub use Rattle.record.specs.declared.load.Unsound.{Unsound}
