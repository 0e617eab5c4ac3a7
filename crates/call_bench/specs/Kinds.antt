-- The types that the code of this crate and of those below it declares, in one place. The constructors of an enum stand under its
-- name in small letters, as `rf.Idle`.
-- Assumes nothing.
pub use Rattle.state.specs.declared.kinds.Counts.{Counts}
