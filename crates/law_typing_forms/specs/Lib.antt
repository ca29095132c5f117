pub mod Formed
pub mod Said
pub mod Whole
pub mod Steady
