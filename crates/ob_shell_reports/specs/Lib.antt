pub mod Prints
pub mod Texts
