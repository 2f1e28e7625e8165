pub mod Weld
pub mod InnerTable
pub mod Call
pub mod Cases
pub mod Read
