pub mod Capped
pub mod Nowhere
