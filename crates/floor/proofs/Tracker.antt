-- What is proved of specs/Tracker.antt.
pub mod Codes
