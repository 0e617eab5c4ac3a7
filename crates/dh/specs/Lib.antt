pub mod Kinds
pub mod Contents
pub mod Hearing
pub mod Host
pub mod Sending
