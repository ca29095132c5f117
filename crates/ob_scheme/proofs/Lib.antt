pub mod Ends
pub mod Appends
pub mod Puts
pub mod Actuals
pub mod Views
pub mod Descriptions
