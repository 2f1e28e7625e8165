pub mod Salvage
pub mod InnerPieces
pub mod InnerScan
pub mod Call
pub mod Cases
