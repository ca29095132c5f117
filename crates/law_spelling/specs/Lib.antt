pub mod Trees
pub mod Coded
pub mod Lines
pub mod Files
pub mod Raw
pub mod Ruled
pub mod Laws
pub mod Seen
