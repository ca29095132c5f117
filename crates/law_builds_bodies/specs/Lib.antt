pub mod built_laws
pub mod limits_laws
