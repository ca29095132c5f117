pub mod Rows
pub mod Products
