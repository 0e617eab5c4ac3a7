-- The types that the code of this crate and of those below it declares, in one place. The constructors of an enum stand under its
-- name in small letters, as `rf.Idle`.
-- Assumes nothing.
pub use Rattle.packets.specs.declared.Header.{Header}
pub use Rattle.packets.specs.Packet.{Reading}
pub use Rattle.packets.specs.declared.Way.{Way}
pub use Rattle.packets.specs.declared.Way.TheVariants as way
pub use Rattle.state.specs.declared.kinds.Asked.{Asked}
pub use Rattle.state.specs.declared.kinds.ControlRun.{ControlRun}
pub use Rattle.state.specs.declared.kinds.Controller.{Controller}
pub use Rattle.state.specs.declared.kinds.ControllerSide.{ControllerSide}
pub use Rattle.state.specs.declared.kinds.Counts.{Counts}
pub use Rattle.state.specs.declared.kinds.Ends.{Ends}
pub use Rattle.state.specs.declared.kinds.Hand.{Hand}
pub use Rattle.state.specs.declared.kinds.Host.{Host}
pub use Rattle.state.specs.declared.kinds.HostSide.{HostSide}
pub use Rattle.state.specs.declared.kinds.Pairs.{Pairs}
pub use Rattle.state.specs.declared.kinds.Profile.{Profile}
pub use Rattle.state.specs.declared.kinds.Progress.{Progress}
pub use Rattle.state.specs.declared.kinds.Record.{Record}
pub use Rattle.state.specs.declared.kinds.Rf.{Rf}
pub use Rattle.state.specs.declared.kinds.Ring.{Ring}
pub use Rattle.state.specs.declared.kinds.Terms.{Terms}
pub use Rattle.state.specs.declared.runs.ControlJoined.{ControlJoined}
pub use Rattle.state.specs.declared.runs.Joined.{Joined}
pub use Rattle.state.specs.declared.verdict.Verdict.{Verdict}
pub use Rattle.state.specs.declared.verdict.Verdict.TheVariants as verdict
pub use Rattle.messages.specs.declared.layout.Note.{Note}
pub use Rattle.air.specs.declared.events.Aired.{Aired}
pub use Rattle.air.specs.declared.events.Aired.TheVariants as aired
pub use Rattle.air.specs.declared.events.Listing.{Listing}
pub use Rattle.air.specs.declared.events.Listing.TheVariants as listing
pub use Rattle.dh.specs.declared.host.Answer.{Answer}
pub use Rattle.dh.specs.declared.host.Answer.TheVariants as answer
pub use Rattle.dh.specs.declared.host.Heard.{Heard}
pub use Rattle.dh.specs.declared.host.Heard.TheVariants as heard
pub use Rattle.ends.specs.declared.command.Answered.{Answered}
pub use Rattle.ends.specs.declared.command.Decision.{Decision}
pub use Rattle.ends.specs.declared.message.Heeded.{Heeded}
