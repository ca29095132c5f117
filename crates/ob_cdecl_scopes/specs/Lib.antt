pub mod Stacks
pub mod Descending
pub mod Predeclaring
pub mod Scopes
pub mod Bodies
pub mod Finite
pub mod Naming
