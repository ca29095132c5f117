pub mod Rebasing
pub mod Chosen
pub mod Bare
pub mod Keeping
pub mod HeightLaws
pub mod PointerLaws
