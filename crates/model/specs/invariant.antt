pub mod Items
pub mod Phases
pub mod Link
pub mod Commands
pub mod Bench
pub mod Hands
pub mod Configured
