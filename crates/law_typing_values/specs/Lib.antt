pub mod Same
pub mod Valued
pub mod Laws
pub mod Around
pub mod Families
