pub mod Parting
pub mod Views
pub mod Parts
