mod Grow
mod Running
mod Sizing
mod Telling
mod Visiting
mod Settling
mod Numbering
mod Sheets
pub mod Corollaries
