mod AllSided
mod Put
mod Spaced
mod Said
mod Pieces
mod RoomLines
mod AllLines
mod Limits
mod Telling
mod Answers
pub mod Corollaries
