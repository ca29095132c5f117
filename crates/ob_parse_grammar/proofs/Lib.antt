pub mod Basics
pub mod Exact
pub mod Fine
pub mod Local
pub mod Alive
pub mod Whole
pub mod Verdicts
pub mod Loops
