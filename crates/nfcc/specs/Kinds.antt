-- The types that the code of this crate and of those below it declares, in one place. The constructors of an enum stand under its
-- name in small letters, as `rf.Idle`.
-- Assumes nothing.
pub use Rattle.state.specs.declared.commands.Command.{Command}
pub use Rattle.state.specs.declared.commands.Command.TheVariants as command
pub use Rattle.state.specs.declared.kinds.Activation.{Activation}
pub use Rattle.state.specs.declared.kinds.Controller.{Controller}
pub use Rattle.state.specs.declared.kinds.Counts.{Counts}
pub use Rattle.state.specs.declared.kinds.Hand.{Hand}
pub use Rattle.state.specs.declared.kinds.Pair.{Pair}
pub use Rattle.state.specs.declared.kinds.Pairs.{Pairs}
pub use Rattle.state.specs.declared.kinds.Phase.{Phase}
pub use Rattle.state.specs.declared.kinds.Phase.TheVariants as phase
pub use Rattle.state.specs.declared.kinds.Profile.{Profile}
pub use Rattle.state.specs.declared.kinds.Rf.{Rf}
pub use Rattle.state.specs.declared.kinds.Rf.TheVariants as rf
pub use Rattle.state.specs.declared.verdict.Status.TheVariants as status
pub use Rattle.state.specs.declared.verdict.Verdict.{Verdict}
pub use Rattle.state.specs.declared.verdict.Verdict.TheVariants as verdict
