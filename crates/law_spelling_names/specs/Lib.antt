pub mod Nested
pub mod Seen
pub mod Laws
