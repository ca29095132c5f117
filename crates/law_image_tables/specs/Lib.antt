pub mod Declared
pub mod Based
pub mod Families
pub mod Redefined
pub mod Image
pub mod Settled
pub mod Counted
