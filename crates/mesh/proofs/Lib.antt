pub mod Tests
pub mod Gathers
pub mod Limits
