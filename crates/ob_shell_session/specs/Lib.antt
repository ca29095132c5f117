pub mod Found
pub mod Counting
pub mod Does
pub mod Running
pub mod Made
pub mod Session
pub mod Stand
