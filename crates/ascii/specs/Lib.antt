pub mod Letters
pub mod Digits
pub mod Words
pub mod Fields
pub mod Writing
pub mod Input
