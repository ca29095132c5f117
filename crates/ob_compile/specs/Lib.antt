pub mod Steps
pub mod Ruled
pub mod Showing
