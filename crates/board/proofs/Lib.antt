mod Given
mod Slimming
mod Narrowing
mod Standing
mod Answering
pub mod Corollaries
pub mod AnyCalls
