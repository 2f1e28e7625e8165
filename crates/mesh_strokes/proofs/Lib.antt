pub mod Walks
pub mod Seens
pub mod Steps
pub mod DrawingDemand
pub mod Cases
pub mod Unique
