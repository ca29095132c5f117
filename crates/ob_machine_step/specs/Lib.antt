pub mod Texts
pub mod Bases
pub mod Places
pub mod Grows
