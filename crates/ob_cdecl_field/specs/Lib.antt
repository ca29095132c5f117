pub mod Makes
pub mod FieldMakes
pub mod ParameterMakes
