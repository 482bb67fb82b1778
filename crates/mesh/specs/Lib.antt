-- The contracts of the open calls of `triangulation` cite Mesh. Bounded, Corners, Held, Writers and Rims serve inner contracts only.
pub mod Mesh
pub mod Bounded
pub mod Corners
pub mod Held
pub mod Writers
pub mod Rims
