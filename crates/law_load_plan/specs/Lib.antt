pub mod Alike
pub mod Seen
pub mod Compiled
pub mod Laws
