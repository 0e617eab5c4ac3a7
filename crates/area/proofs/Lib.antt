pub mod Sum
pub mod Moves
pub mod Rings
pub mod Puts
