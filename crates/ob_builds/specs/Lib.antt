pub mod Builds
pub mod Apart
pub mod Local
pub mod Afresh
pub mod Written
pub mod Simulated
pub mod Promises
