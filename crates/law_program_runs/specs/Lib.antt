pub mod Builds
pub mod Laws
