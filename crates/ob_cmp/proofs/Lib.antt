pub mod Merging
pub mod Adding
pub mod Filed
pub mod Stepping
pub mod Halving
pub mod Finding
pub mod Seen
