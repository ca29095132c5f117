pub mod Walk
pub mod Walking
pub mod Answer
