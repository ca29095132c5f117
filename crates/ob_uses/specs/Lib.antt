pub mod Closed
pub mod Reaching
pub mod Objects
pub mod Order
pub mod Uses
pub mod Ways
pub mod Made
pub mod Held
