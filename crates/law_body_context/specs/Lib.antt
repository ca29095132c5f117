pub mod Spelled
pub mod Knows
pub mod Order
pub mod Judged
pub mod Around
pub mod Laws
pub mod ConstantLaws
