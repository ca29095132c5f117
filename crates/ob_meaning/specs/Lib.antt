pub mod Values
pub mod Results
pub mod Operators
pub mod Meaning
pub mod Calls
pub mod Commands
pub mod Globals
pub mod Laws
