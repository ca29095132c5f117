pub mod Index
pub mod Walk
pub mod Plan
pub mod Files
pub mod Members
pub mod Judging
pub mod Contract
pub mod Walking
