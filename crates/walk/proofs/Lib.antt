-- Laws that belong to no one function.
pub mod Pushed
pub mod Drawn
pub mod Walked
