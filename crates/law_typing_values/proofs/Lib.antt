pub mod Same
pub mod Values
pub mod Stays
pub mod Equal
pub mod Matching
pub mod Around
pub mod Redefined
