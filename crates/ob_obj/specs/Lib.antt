pub mod Grammar
pub mod Laws
pub mod Given
pub mod Images
