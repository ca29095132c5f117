pub mod Opens
pub mod Made
pub mod Copies
pub mod Chars
pub mod Strings
pub mod Texts
pub mod Writing
pub mod Slots
