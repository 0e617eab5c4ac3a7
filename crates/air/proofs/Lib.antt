pub mod Room
pub mod Taken
pub mod Spoken
pub mod SmallEvents
