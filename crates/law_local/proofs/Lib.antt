pub mod Walked
pub mod Compiled
pub mod Following
pub mod Named
