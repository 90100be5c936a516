-- What is proved of specs/Totals.antt.
pub mod Wrapped
pub mod Figures
pub mod Shown
