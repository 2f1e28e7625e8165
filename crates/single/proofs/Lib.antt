pub mod Cases
pub mod Held
pub mod Patterns
pub mod Unique
