pub mod ArrayLaws
pub mod OutLaws
