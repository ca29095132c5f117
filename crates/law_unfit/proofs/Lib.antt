-- The proof that builds fit but for two conditions, part by part.
pub mod Followed
pub mod Sizes
pub mod Words
pub mod Around
pub mod Built
pub mod First
pub mod Refused
pub mod Whole
