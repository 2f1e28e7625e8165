pub mod Normals
pub mod Faces
pub mod Alike
pub mod Faults
pub mod Unique
