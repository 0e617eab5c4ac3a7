-- The types that the code of this crate and of those below it declares, in one place. The constructors of an enum stand under its
-- name in small letters, as `rf.Idle`.
-- Assumes nothing.
pub use Rattle.state.specs.declared.commands.Command.{Command}
pub use Rattle.state.specs.declared.commands.Command.TheVariants as command
pub use Rattle.state.specs.declared.kinds.Asked.{Asked}
pub use Rattle.state.specs.declared.kinds.Counts.{Counts}
pub use Rattle.state.specs.declared.kinds.Host.{Host}
pub use Rattle.state.specs.declared.kinds.HostSide.{HostSide}
pub use Rattle.state.specs.declared.kinds.Terms.{Terms}
pub use Rattle.dh.specs.declared.contents.Notice.{Notice}
pub use Rattle.dh.specs.declared.contents.Notice.TheVariants as notice
pub use Rattle.dh.specs.declared.host.Answer.{Answer}
pub use Rattle.dh.specs.declared.host.Answer.TheVariants as answer
pub use Rattle.dh.specs.declared.host.Heard.{Heard}
pub use Rattle.dh.specs.declared.host.Heard.TheVariants as heard
