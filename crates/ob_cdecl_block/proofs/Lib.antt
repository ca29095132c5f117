pub mod HeadingLaws
pub mod FieldLaws
pub mod ProcedureLaws
pub mod ContentLaws
pub mod ToldLaws
pub mod DeclViews
pub mod Depths
pub mod BlockLaws
