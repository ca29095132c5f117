pub mod Whole
pub mod Alike
pub mod Plain
pub mod Passing
