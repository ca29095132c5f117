pub mod Vocabulary
pub mod Scanning
pub mod Gaps
pub mod Kinds
