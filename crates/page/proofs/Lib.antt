-- Laws that belong to no one function.
pub mod Moves
pub mod Follow
pub mod Fits
pub mod Ends
pub mod Writes
