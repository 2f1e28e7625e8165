pub mod Refusals
pub mod Said
pub mod Outcome
pub mod Limits
pub mod One
pub mod Each
