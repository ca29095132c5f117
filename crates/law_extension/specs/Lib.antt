pub mod Gained
