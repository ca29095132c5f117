pub mod Promised
pub mod Room
pub mod owing_laws
