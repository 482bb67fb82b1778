-- Open calls cite Mapping (`is_reverse`, `map_index`, `map_index_inv`), Search (`new_vector`) and Fits (what is given
-- to `triangulate_seams`); of these, `HasIndex`, `row_of` and `Rows` serve inner contracts only. Table has known
-- results, and no contract cites it.
pub mod Mapping
pub mod Search
pub mod TwoRows
pub mod Fits
pub mod Table
