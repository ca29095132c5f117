pub mod Members
pub mod Basics
