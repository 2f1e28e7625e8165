pub mod Draw
pub mod InnerWalk
pub mod Call
pub mod Cases
