-- A first paper, and papers that meet every call and every refusal.
pub mod Paper
pub mod Lists
