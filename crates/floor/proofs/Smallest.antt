-- What is proved of specs/Smallest.antt.
pub mod Least
pub mod Held
pub mod Shown
