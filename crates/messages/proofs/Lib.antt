pub mod Messages
pub mod Lengths
pub mod Small
