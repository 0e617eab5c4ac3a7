pub mod Layout
pub mod Packets
