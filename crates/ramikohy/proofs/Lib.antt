pub mod Unique
pub mod Calls
