pub mod Walks
pub mod Outlines
pub mod Filling
pub mod Testing
pub mod Writing
pub mod Corollaries
