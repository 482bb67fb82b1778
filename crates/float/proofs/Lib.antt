-- Laws that belong to no one function. Callers of other crates use Less, Orders, Larger, Differences,
-- Bounds, Range, Between and Zeros.
pub mod Value
pub mod Less
pub mod Rounding
pub mod Signs
pub mod Orders
pub mod Larger
pub mod Differences
pub mod Floors
pub mod Bounds
pub mod Range
pub mod Between
pub mod Zeros
pub mod Facts
