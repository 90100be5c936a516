-- What is proved of specs/Narrow.antt.
pub mod Found
pub mod Result
pub mod Hopeless
