pub mod Apart
pub mod Types
pub mod Encircled
