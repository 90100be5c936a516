mod Numbers
mod Calling
mod Copying
pub mod Corollaries
pub mod Enough
