pub mod Showing
pub mod Fitting
pub mod Telling
pub mod Answering
pub mod Playing
pub mod Papers
