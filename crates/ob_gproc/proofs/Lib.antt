pub mod Placing
pub mod Counting
pub mod Exporting
pub mod Filing
pub mod Limiting
