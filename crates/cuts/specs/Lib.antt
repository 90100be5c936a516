pub mod Rows
pub mod Orders
pub mod Links
pub mod Tasks
pub mod Runs
