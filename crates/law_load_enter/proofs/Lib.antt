pub mod Whole
pub mod Limits
pub mod Law
pub mod Strings
pub mod Chosen
pub mod Entering
pub mod Shown
