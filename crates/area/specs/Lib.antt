pub mod Map
pub mod Ring
pub mod Movers
pub mod Runs
