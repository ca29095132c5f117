pub mod Reading
pub mod Typings
pub mod Names
pub mod Whole
