pub mod Counting
pub mod Members
pub mod Types
pub mod Redefining
pub mod Whole
