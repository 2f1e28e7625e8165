pub mod Words
pub mod Tables
pub mod Sizes
pub mod Modes
pub mod Back
