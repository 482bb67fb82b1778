-- Open calls cite Vectors.
pub mod Vectors
