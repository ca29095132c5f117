pub mod Entering
pub mod Linked
