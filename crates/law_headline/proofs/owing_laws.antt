pub mod Builds
pub mod Whole
