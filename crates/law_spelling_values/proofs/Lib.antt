pub mod Shown
pub mod Checked
pub mod Others
pub mod Compiled
pub mod Outward
pub mod Numbered
pub mod Bodies
pub mod Left
