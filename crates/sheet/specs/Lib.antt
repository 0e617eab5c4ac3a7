pub mod Kinds
pub mod Play
pub mod Show
pub mod Sheet
pub mod Told
pub mod Paper
pub mod FirstPapers
