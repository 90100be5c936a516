-- What is proved of specs/Lists.antt.
pub mod Laws
