pub mod Bases
pub mod Tables
pub mod Described
pub mod Entries
