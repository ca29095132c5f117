pub mod Coming
pub mod Different
pub mod Fields
pub mod Grounded
