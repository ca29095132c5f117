pub mod Reading
pub mod Opens
