pub mod Lettered
pub mod Procedures
pub mod Built
