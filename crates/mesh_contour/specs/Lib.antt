pub mod Contour
pub mod Call
