mod Two
mod Asking
mod Placing
mod Judging
mod Writing
pub mod Corollaries
