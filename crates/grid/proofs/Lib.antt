-- What callers know of a grid without opening its definitions.
pub mod Laws
