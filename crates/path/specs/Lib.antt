-- Open calls cite GridPaths (`grid_paths`) and Line (`line_span`, `get`).
pub mod GridPaths
pub mod Line
