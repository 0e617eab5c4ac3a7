pub mod Octets
pub mod Octal
pub mod Hex
