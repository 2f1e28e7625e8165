pub mod Sheets
pub mod InnerKept
