pub mod Ends
pub mod Puts
pub mod Back
pub mod Written
pub mod Unique
pub mod Corners
pub mod Sizes
