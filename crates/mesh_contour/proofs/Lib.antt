pub mod Segments
pub mod Back
pub mod Contours
pub mod Unique
