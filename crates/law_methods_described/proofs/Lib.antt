pub mod Nodes
pub mod Typings
pub mod Written
pub mod Heads
pub mod Blocks
