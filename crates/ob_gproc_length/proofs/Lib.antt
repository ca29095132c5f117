pub mod Shapes
pub mod Chains
pub mod Lengths
pub mod Turns
pub mod Short
