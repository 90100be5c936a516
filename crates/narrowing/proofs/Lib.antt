mod Stacking
mod Trying
mod Searching
pub mod Corollaries
