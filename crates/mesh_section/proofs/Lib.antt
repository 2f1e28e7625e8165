pub mod Hits
pub mod Faces
pub mod Verdicts
pub mod Unique
