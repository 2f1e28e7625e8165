pub mod Normals
pub mod Seen
pub mod Faults
