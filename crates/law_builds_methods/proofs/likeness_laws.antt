pub mod Types
pub mod Headings
pub mod Methods
pub mod Modules
pub mod Loaded
