pub mod Laws
pub mod Families
pub mod NumberLaws
