pub mod Segments
pub mod Joins
pub mod Unique
pub mod Cases
