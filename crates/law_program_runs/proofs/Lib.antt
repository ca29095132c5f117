mod Carried
mod Joins
mod Shifts
mod Stops
mod Images
pub mod Settings
mod Entered
mod Found
mod Runs
mod Bodies
mod Commands
pub mod Whole
