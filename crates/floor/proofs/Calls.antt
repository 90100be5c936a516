-- What is proved of specs/Calls.antt.
pub mod Sound
pub mod Touching
pub mod Registered
pub mod Sliced
pub mod Effects
pub mod Bytes
pub mod Exact
pub mod Starts
pub mod Always
pub mod Narrows
pub mod Narrowing
pub mod Elsewhere
