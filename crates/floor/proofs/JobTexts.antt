-- What is proved of specs/JobTexts.antt.
pub mod Shown
pub mod Back
