pub mod Chops
pub mod Counts
pub mod Bounds
pub mod Calls
pub mod Uncut
pub mod Unique
pub mod Cases
