pub mod Loops
pub mod Calls
pub mod Unique
pub mod Back
