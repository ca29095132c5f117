pub mod Upheld
pub mod based_laws
pub mod short_builds_laws
pub mod grounds_laws
pub mod Laws
