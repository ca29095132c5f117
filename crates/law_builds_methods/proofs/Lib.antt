pub mod belonging_laws
pub mod likeness_laws
