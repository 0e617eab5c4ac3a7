pub mod Moves
pub mod Made
pub mod Turns
