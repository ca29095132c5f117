pub mod Format
pub mod Order
pub mod Exact
pub mod Names
pub mod NameLaws
pub mod Words
pub mod WordLaws
