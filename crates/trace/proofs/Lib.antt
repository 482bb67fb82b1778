-- Laws that belong to no one function, and in Known the known results of all layers.
pub mod Sampled
pub mod Checks
pub mod Turns
pub mod Shown
pub mod Keeps
pub mod Agree
pub mod Pushed
pub mod Drawn
pub mod Kept
pub mod Points
pub mod Demands
pub mod Numbered
pub mod Ended
pub mod Known
