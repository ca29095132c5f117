mod Bare
mod One
pub mod Tokens
mod Exact
