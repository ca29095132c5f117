pub mod Spelling
pub mod SpellingLaws
pub mod Parts
pub mod PartLaws
pub mod Image
pub mod Rows
pub mod Table
