pub mod Call
pub mod Cases
pub mod Unsaid
