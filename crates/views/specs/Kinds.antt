-- The types that the code of this crate and of those below it declares, in one place. The constructors of an enum stand under its
-- name in small letters, as `rf.Idle`.
-- Assumes nothing.
pub use Rattle.packets.specs.declared.Header.{Header}
pub use Rattle.state.specs.declared.kinds.ControlRun.{ControlRun}
pub use Rattle.state.specs.declared.kinds.ControllerSide.{ControllerSide}
pub use Rattle.state.specs.declared.kinds.Counts.{Counts}
pub use Rattle.state.specs.declared.kinds.Ends.{Ends}
pub use Rattle.state.specs.declared.kinds.Hand.{Hand}
pub use Rattle.state.specs.declared.kinds.HostSide.{HostSide}
pub use Rattle.state.specs.declared.kinds.Profile.{Profile}
pub use Rattle.state.specs.declared.kinds.Progress.{Progress}
pub use Rattle.state.specs.declared.kinds.Record.{Record}
pub use Rattle.state.specs.declared.kinds.Ring.{Ring}
pub use Rattle.state.specs.declared.runs.Joined.{Joined}
