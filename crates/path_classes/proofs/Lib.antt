pub mod Same
pub mod Classing
pub mod Asides
pub mod Orders
pub mod Words
pub mod Lines
pub mod Labels
pub mod Unique
