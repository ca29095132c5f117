pub mod Distinct
pub mod Parts
pub mod Named
pub mod Fields
pub mod Short
pub mod Procedures
