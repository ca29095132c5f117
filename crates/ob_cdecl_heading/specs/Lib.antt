pub mod Kept
pub mod Owners
pub mod Keys
pub mod Index
pub mod Sections
pub mod Answering
