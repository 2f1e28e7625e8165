pub mod Demand3
pub mod Points
pub mod Numbering
