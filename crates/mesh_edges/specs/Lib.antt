pub mod Edges
pub mod Flips
pub mod InnerWords
pub mod InnerSteps
