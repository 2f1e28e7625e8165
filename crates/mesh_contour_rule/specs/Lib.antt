pub mod Contour
pub mod Closed
pub mod InnerMet
pub mod Faces
pub mod Cases
pub mod Numbers
