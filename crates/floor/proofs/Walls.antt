-- What is proved of specs/Walls.antt.
pub mod Walk
pub mod Bound
pub mod Relax
pub mod Rules
pub mod Tight
