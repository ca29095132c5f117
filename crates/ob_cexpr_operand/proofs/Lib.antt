pub mod LiteralLaws
pub mod RowLaws
pub mod TestLaws
pub mod PlaceLaws
