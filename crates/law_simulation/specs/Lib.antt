pub mod Slice
pub mod Simulates
pub mod Laws
pub mod Sum
pub mod Matching
pub mod Nothing
