pub mod Running
pub mod Heights
pub mod Told
