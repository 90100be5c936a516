mod Linking
mod Arranging
mod Looking
mod Running
mod Ordered
mod Writing
pub mod Corollaries
