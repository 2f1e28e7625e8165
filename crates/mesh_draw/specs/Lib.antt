pub mod Call
pub mod InnerMode
pub mod Faults
pub mod Unsaid
