pub mod Walks
pub mod Inks
pub mod Tallies
pub mod Meets
pub mod Calls
pub mod Unique
pub mod Halvings
pub mod Cases
