pub mod Laws
pub mod DeferredLaws
pub mod ReadingLaws
