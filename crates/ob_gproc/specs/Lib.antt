pub mod Placed
pub mod Scoped
pub mod Parts
pub mod Named
pub mod Filed
pub mod Whole
pub mod Limits
