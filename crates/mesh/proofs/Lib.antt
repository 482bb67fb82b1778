-- Laws that belong to no one function.
pub mod Firsts
pub mod Holding
pub mod Cells
pub mod Joins
pub mod Inner
pub mod Numbers
pub mod Flips
pub mod Answers
