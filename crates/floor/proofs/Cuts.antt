-- What is proved of specs/Cuts.antt.
pub mod Keeping
pub mod Filled
pub mod Sliced
pub mod Grown
pub mod Counted
pub mod Bytes
pub mod Held
pub mod ByWalls
pub mod Spanned
