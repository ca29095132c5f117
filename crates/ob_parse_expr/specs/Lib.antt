pub mod Left
pub mod Contract
pub mod Chains
