pub mod Section
pub mod Call
