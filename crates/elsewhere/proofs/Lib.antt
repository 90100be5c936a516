pub mod Shaping
pub mod Placing
pub mod Asking
pub mod Judging
pub mod Printing
pub mod Corollaries
