pub mod Sourced
pub mod Answered
pub mod Walked
pub mod Ruled
pub mod Limited
pub mod Facing
pub mod Sized
