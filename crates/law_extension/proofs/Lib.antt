pub mod Gained
pub mod Compared
