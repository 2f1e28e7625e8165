pub mod Words
pub mod Pages
pub mod Lists
pub mod Answers
pub mod Rows
