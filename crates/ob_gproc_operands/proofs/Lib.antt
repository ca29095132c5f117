pub mod Shapes
pub mod Chains
pub mod Anywhere
pub mod Lists
pub mod Few
