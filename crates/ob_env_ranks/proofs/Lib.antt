pub mod Alls
pub mod Rounds
pub mod Ranks
