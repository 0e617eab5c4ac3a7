pub mod Packet
pub mod RoundTrip
pub mod Reserved
pub mod Segments
pub mod Reassembly
