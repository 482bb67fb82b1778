-- Every open call that takes a grid cites Grid.
pub mod Grid
