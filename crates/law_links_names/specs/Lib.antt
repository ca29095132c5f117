pub mod Trees
pub mod Mentions
