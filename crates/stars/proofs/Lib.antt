pub mod Tables
pub mod Entries
pub mod EveryRoom
pub mod Holding
pub mod Back
pub mod Round
pub mod Sized
