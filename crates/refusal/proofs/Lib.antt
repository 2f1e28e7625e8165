pub mod Unique
pub mod Outcomes
