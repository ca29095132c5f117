pub mod Phrases
pub mod Counts
pub mod Words
pub mod Reading
