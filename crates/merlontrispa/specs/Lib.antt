-- How the answers of open calls cross the C boundary. The contracts of the functions for C cite every file.
pub mod Floats
pub mod Lines
pub mod Meshes
pub mod Seams
pub mod Textures
pub mod Vectors
