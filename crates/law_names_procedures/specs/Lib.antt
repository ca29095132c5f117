pub mod Procedures
pub mod Named
