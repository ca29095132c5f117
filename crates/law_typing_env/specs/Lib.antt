pub mod Ages
pub mod Views
pub mod Sized
pub mod Ordered
pub mod Laws
pub mod Words
pub mod Shallow
pub mod Near
