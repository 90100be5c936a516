mod Contacts
pub mod Placing
pub mod TurnedStars
pub mod Corollaries
