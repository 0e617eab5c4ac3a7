pub mod Meaning
pub mod Tally
pub mod Counted
