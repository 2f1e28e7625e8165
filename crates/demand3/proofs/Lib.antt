pub mod Pairs
pub mod Theorem
