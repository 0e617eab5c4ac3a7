-- The types that the code of this crate and of those below it declares, in one place. The constructors of an enum stand under its
-- name in small letters, as `rf.Idle`.
-- Assumes nothing.
pub use Rattle.packets.specs.declared.Header.{Header}
pub use Rattle.packets.specs.Packet.{Reading}
pub use Rattle.packets.specs.declared.Way.{Way}
pub use Rattle.packets.specs.declared.Way.TheVariants as way
pub use Rattle.state.specs.declared.commands.Command.{Command}
pub use Rattle.state.specs.declared.commands.Command.TheVariants as command
pub use Rattle.state.specs.declared.kinds.Activation.{Activation}
pub use Rattle.state.specs.declared.kinds.Asked.{Asked}
pub use Rattle.state.specs.declared.kinds.Controller.{Controller}
pub use Rattle.state.specs.declared.kinds.Host.{Host}
pub use Rattle.state.specs.declared.kinds.Pair.{Pair}
pub use Rattle.state.specs.declared.kinds.Pairs.{Pairs}
pub use Rattle.state.specs.declared.kinds.Phase.{Phase}
pub use Rattle.state.specs.declared.kinds.Phase.TheVariants as phase
pub use Rattle.state.specs.declared.kinds.Profile.{Profile}
pub use Rattle.state.specs.declared.kinds.Rf.{Rf}
pub use Rattle.state.specs.declared.kinds.Rf.TheVariants as rf
pub use Rattle.state.specs.declared.kinds.Terms.{Terms}
pub use Rattle.state.specs.declared.verdict.Verdict.{Verdict}
pub use Rattle.state.specs.declared.verdict.Verdict.TheVariants as verdict
pub use Rattle.air.specs.declared.events.Aired.{Aired}
pub use Rattle.air.specs.declared.events.Aired.TheVariants as aired
pub use Rattle.air.specs.declared.events.Event.{Event}
pub use Rattle.air.specs.declared.events.Event.TheVariants as event
pub use Rattle.air.specs.declared.events.Listing.{Listing}
pub use Rattle.air.specs.declared.events.Listing.TheVariants as listing
pub use Rattle.dh.specs.declared.contents.Notice.{Notice}
pub use Rattle.dh.specs.declared.contents.Notice.TheVariants as notice
pub use Rattle.dh.specs.declared.host.Answer.{Answer}
pub use Rattle.dh.specs.declared.host.Answer.TheVariants as answer
pub use Rattle.dh.specs.declared.host.Heard.{Heard}
pub use Rattle.dh.specs.declared.host.Heard.TheVariants as heard
