pub mod CreditNotice
pub mod ConfigResponses
pub mod RoundTrips
pub mod Backwards
pub mod Changes
