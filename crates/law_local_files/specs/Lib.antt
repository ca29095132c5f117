pub mod Agreeing
pub mod Read
pub mod Laws
pub mod Tied
pub mod Checked
