pub mod Behinds
pub mod Shifts
pub mod Chains
pub mod Turns
pub mod For
