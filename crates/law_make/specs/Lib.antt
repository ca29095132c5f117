pub mod Making
pub mod UpToDate
