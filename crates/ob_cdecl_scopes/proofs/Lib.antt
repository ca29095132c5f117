pub mod Places
pub mod Stacking
pub mod Finding
pub mod Scoping
pub mod Bodying
pub mod Predeclaring
pub mod Changing
