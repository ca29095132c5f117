pub mod PointedLaws
pub mod SetLaws
