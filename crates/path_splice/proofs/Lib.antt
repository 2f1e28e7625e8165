pub mod Tables
pub mod Joining
pub mod Readings
pub mod Answers
pub mod Unique
pub mod Cases
pub mod Pairs
