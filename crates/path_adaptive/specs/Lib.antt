pub mod Walk
pub mod Tally
pub mod InnerSpan
pub mod InnerMeasure
pub mod InnerWrite
pub mod Call
pub mod Cases
