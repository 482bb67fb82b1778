-- Laws that belong to no one function.
pub mod Steps
pub mod Index
pub mod Codes
pub mod Grid
pub mod Each
pub mod Order
pub mod Places
pub mod Laws
pub mod Storable
pub mod Kept
pub mod Gather
