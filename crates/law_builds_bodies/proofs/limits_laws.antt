pub mod Procedures
pub mod Loaded
