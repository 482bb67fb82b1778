-- What the functions' proofs share, and what callers know of a drawn list.
pub mod Lines
pub mod Turns
pub mod Checks
pub mod There
pub mod Read
