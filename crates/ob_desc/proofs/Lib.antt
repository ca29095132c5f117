pub mod Read
pub mod Runs
pub mod Digits
pub mod Short
