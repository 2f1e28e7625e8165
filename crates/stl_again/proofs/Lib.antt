pub mod Meets
pub mod Vertices
pub mod Again
pub mod Theorem
