pub mod Tests
pub mod Sorted
pub mod Radix
pub mod Passes
pub mod Parts
pub mod Sorting
