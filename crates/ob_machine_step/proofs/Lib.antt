pub mod Endings
pub mod Bases
pub mod Puts
pub mod Made
pub mod Powers
pub mod TrapRows
