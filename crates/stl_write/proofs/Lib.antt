pub mod Corners
pub mod Calls
pub mod Unique
pub mod Back
pub mod Cases
