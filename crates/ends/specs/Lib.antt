pub mod Kinds
pub mod RoundTrips
pub mod Backwards
pub mod Changes
pub mod Steps
