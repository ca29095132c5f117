pub mod Values
pub mod Parses
