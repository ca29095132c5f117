pub mod Waiting
pub mod Kept
pub mod Copies
pub mod Reached
pub mod Callees
pub mod Starts
