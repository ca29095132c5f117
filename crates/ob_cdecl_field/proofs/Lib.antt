pub mod Cuts
pub mod FieldLaws
pub mod ParameterLaws
pub mod LoopLaws
pub mod SectionLaws
pub mod Scoping
