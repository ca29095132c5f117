pub mod Faces
pub mod Walking
pub mod Stale
pub mod Standing
pub mod Made
pub mod Whole
pub mod Law
