pub mod inherited_laws
pub mod Staying
pub mod Sound
pub mod Loaded
pub mod whole_laws
pub mod laying_laws
