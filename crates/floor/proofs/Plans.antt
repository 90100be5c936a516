-- What is proved of specs/Plans.antt.
pub mod Held
