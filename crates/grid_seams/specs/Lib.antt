-- The contract of `find_seams` cites Seams.
pub mod Seams
