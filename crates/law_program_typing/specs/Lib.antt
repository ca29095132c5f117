pub mod Once
pub mod Steady
pub mod Laws
pub mod Accepted
pub mod Kept
