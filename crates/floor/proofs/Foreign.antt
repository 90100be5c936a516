-- What is proved of specs/Foreign.antt.
pub mod Shaped
pub mod Ring
pub mod Tested
pub mod Judged
pub mod Shown
