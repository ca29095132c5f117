pub mod Methods
pub mod Loaded
