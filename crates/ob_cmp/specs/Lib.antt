pub mod Verdicts
pub mod Check
pub mod Checking
pub mod Rising
pub mod Show
