pub mod Shut
pub mod Written
pub mod Plain
pub mod Modules
pub mod Near
pub mod Closed
pub mod Builds
