pub mod Squares
pub mod Thins
pub mod SplitTest
pub mod Noted
pub mod Totals
pub mod Calls
pub mod Unique
pub mod Cases
