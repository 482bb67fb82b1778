-- Laws that belong to no one function.
pub mod Plans
pub mod Samples
pub mod Laws
pub mod Distances
