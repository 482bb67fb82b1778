-- Every open call that takes a tolerance cites Tolerance. Table has known results, and no contract cites it.
pub mod Tolerance
pub mod Table
