pub mod Inks
pub mod Lines
pub mod Decimals
pub mod Unique
pub mod Cases
