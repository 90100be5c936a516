pub mod Boards
pub mod Reach
