pub mod Counts
pub mod Noted
pub mod Parts
