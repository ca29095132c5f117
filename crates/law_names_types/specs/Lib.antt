pub mod Nested
pub mod Fields
pub mod Once
pub mod Unlike
