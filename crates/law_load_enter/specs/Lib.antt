pub mod Loaded
pub mod Filed
pub mod Strings
pub mod Entered
pub mod Shown
