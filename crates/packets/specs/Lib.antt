pub mod Types
pub mod Packet
pub mod Reserved
pub mod Headers
pub mod Segments
pub mod Reassembly
