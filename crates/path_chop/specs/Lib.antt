pub mod Chop
pub mod Call
pub mod Cases
pub mod InnerCounts
