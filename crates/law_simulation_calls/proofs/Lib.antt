pub mod Fits
pub mod Variables
pub mod Named
pub mod Supers
pub mod Bound
pub mod Unbound
