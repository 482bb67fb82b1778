-- The contracts of both calls cite Triangulation. Table has known results, and no contract cites it.
pub mod Triangulation
pub mod Table
