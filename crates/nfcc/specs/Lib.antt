pub mod Kinds
pub mod Controller
pub mod CommandTrips
