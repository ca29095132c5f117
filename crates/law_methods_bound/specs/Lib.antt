pub mod Bound
pub mod There
pub mod Methods
pub mod Matched
pub mod Procedures
