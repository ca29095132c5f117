pub mod CalledLaws
pub mod LengthLaws
