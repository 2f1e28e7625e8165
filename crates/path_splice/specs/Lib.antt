pub mod InnerText
pub mod Call
pub mod Cases
pub mod InnerPairs
