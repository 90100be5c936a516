pub mod Counted
pub mod Heads
pub mod Known
pub mod Summed
