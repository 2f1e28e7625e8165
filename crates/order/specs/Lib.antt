pub mod Regions
pub mod Order
pub mod InnerDigits
pub mod Sort
