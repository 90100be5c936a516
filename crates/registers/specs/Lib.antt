pub mod Sorting
pub mod Chains
pub mod Kept
pub mod Merging
