-- Laws that belong to no one function.
pub mod Laws
pub mod After
pub mod Zeroes
