-- What is proved of specs/Jobs.antt.
pub mod Round
pub mod Stars
pub mod Straight
pub mod Facts
pub mod Written
pub mod Raw
