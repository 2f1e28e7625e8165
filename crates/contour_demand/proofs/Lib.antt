pub mod Theorem
pub mod Equal
pub mod Kept
pub mod Fitting
pub mod Plain
pub mod Numbering
