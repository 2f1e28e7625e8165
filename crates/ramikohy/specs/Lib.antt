pub mod Points
pub mod Status
pub mod Calls
