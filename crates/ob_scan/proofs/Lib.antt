pub mod Gaps
pub mod Longest
pub mod Beginnings
pub mod Leads
