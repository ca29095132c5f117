pub mod Loop
pub mod Whole
pub mod Splits
pub mod Ends
