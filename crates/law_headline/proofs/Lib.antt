pub mod Whole
pub mod Room
pub mod owing_laws
