pub mod Starting
pub mod Objecting
pub mod Interfacing
