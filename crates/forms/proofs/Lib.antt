pub mod Naming
pub mod Forming
