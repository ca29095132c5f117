pub mod Befores
pub mod Along
