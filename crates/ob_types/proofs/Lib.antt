pub mod TypedViews
pub mod Targets
pub mod Sameness
pub mod Climbs
pub mod Equals
