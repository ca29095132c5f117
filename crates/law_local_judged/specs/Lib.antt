pub mod Agreement
pub mod Said
pub mod Followed
pub mod Declared
pub mod Headed
pub mod Laws
