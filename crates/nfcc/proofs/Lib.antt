pub mod CommandTrips
pub mod Verdicts
pub mod Small
pub mod Judgements
