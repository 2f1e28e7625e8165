pub mod Strokes
pub mod Laid
pub mod Courses
pub mod InnerPushes
pub mod Call
pub mod Tests
pub mod InnerBounds
