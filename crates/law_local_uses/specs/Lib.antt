pub mod Settled
pub mod Laws
pub mod Held
pub mod HeldLaws
pub mod TyingLaws
