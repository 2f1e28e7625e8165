pub mod Listing
pub mod Decimals
pub mod Cases
pub mod InnerLines
