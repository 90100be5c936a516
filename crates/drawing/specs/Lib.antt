pub mod Rects
pub mod Tests
pub mod Drawn
