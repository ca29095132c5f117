pub mod Sorted
pub mod Faces
pub mod Lengths
