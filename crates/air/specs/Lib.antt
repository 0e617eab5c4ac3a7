pub mod Kinds
pub mod Air
