pub mod Heading
pub mod Adding
pub mod Printing
pub mod Counting
pub mod Telling
pub mod Putting
pub mod Corollaries
