-- What is proved of specs/Turns.antt.
pub mod Swing
pub mod Ends
pub mod Turned
pub mod Restore
pub mod Shift
pub mod Numbered
pub mod Around
pub mod Always
pub mod Grows
