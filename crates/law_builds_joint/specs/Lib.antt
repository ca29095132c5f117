pub mod Agreement
pub mod Named
pub mod Joint
