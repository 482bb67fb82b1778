-- Every open call that can refuse cites Refusals. `unless`, `and_then` and `passing` are how
-- definitions put tests in order.
pub mod Refusals
