-- What is proved of specs/Registers.antt.
pub mod Runs
pub mod Floors
pub mod Lines
pub mod Right
pub mod Unique
pub mod Merge
pub mod Fast
pub mod Totals
pub mod Count
