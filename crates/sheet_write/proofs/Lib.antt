pub mod Kepts
pub mod Calls
pub mod Unique
pub mod Written
pub mod Cases
pub mod Unsaid
