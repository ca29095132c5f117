pub mod Legs
pub mod Runs
