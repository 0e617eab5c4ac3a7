pub mod Table
pub mod Stored
pub mod Commands
pub mod Written
pub mod Accepted
pub mod Samples
