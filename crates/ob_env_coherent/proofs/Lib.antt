pub mod Stales
pub mod Steps
pub mod Sizes
pub mod Distinct
pub mod Fits
pub mod Grown
pub mod More
