pub mod Rows
pub mod Samples
pub mod Lists
pub mod SetOctets
pub mod Forms
pub mod Kept
pub mod Accepted
pub mod Spoken
