-- The laws of counting from octets: slots and packets, the loops, what a packet counts for.
-- Assumes nothing.
pub mod Slots
pub mod Counting
pub mod Counted
pub mod Same
pub mod Few
