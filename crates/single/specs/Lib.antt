pub mod Cases
pub mod Singles
