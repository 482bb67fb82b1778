-- Laws that belong to no one function.
pub mod Mappings
pub mod Remains
pub mod Rows
pub mod Laws
pub mod Fits
