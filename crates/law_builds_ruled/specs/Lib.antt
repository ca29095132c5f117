pub mod ruled_laws
pub mod passed_laws
