pub mod Placed
pub mod Shapes
pub mod Answers
