mod Numbers
mod Chaining
mod Buckets
mod Laying
mod Rows
mod Counting
mod Keeping
mod Putting
mod Reading
pub mod Corollaries
