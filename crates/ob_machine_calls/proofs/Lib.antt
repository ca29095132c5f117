pub mod Parts
pub mod Acts
pub mod Copied
pub mod Operands
pub mod Comings
pub mod Starts
pub mod Results
pub mod Less
