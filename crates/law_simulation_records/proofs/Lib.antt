pub mod Bases
pub mod Tags
pub mod Pointers
pub mod With
pub mod Records
pub mod Exact
pub mod Copies
pub mod Assign
