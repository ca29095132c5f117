pub mod Keeping
pub mod Rows
pub mod Ends
pub mod Counting
pub mod Options
