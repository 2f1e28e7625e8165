pub mod Simplify
pub mod InnerSquares
pub mod InnerNotes
pub mod Call
pub mod Cases
