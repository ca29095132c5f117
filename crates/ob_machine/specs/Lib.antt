pub mod Machine
pub mod Legs
