pub mod Call
pub mod Cases
