pub mod Arguments
pub mod Rounds
pub mod Rows
