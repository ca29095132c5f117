pub mod assured_laws
pub mod encircled_laws
pub mod pointed_laws
pub mod lined_laws
pub mod closed_laws
