pub mod ArrayLaws
pub mod LengthLaws
pub mod ListLaws
pub mod HeadingLaws
