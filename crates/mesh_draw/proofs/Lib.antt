pub mod Modes
pub mod Draws
pub mod Faults
pub mod Unique
pub mod Unsaid
