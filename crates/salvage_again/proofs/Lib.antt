pub mod Below
pub mod Cut
pub mod Runs
pub mod Sizes
pub mod Tail
pub mod Theorem
