pub mod Kinds
pub mod View
pub mod Moves
