pub mod Checked
pub mod Loaded
