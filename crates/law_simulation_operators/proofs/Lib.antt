pub mod Sets
pub mod Numbers
pub mod Same
pub mod Rows
pub mod Exprs
pub mod Updates
pub mod For
pub mod Case
