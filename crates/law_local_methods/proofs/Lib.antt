pub mod Members
pub mod Bindings
pub mod Owned
