pub mod Owed
pub mod Premises
pub mod Laws
pub mod Numbers
pub mod Families
pub mod Named
pub mod Like
