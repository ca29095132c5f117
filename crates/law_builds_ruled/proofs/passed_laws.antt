pub mod Sections
pub mod Heads
pub mod Blocks
pub mod Modules
