pub mod Blanks
pub mod Chars
pub mod Several
pub mod Turns
