pub mod Linked
pub mod Trees
pub mod Said
pub mod Types
