pub mod Bare
pub mod Ordered
pub mod Said
pub mod Loaded
