pub mod Links
pub mod Ends
pub mod Runs
pub mod Layout
pub mod Walk
