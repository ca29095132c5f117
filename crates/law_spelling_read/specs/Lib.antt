pub mod Laws
pub mod Placed
pub mod ReadPlaces
pub mod PlacedLaws
