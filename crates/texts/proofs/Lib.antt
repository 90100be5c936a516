mod Rows
mod Answers
mod Plans
mod Fitting
pub mod Corollaries
mod Registers
mod Cutting
