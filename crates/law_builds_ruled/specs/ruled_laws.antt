pub mod Variables
pub mod Ruled
