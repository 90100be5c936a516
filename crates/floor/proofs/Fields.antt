-- What is proved of specs/Fields.antt.
pub mod Laws
