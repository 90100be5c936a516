pub mod Slims
pub mod Rounds
