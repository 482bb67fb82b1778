-- The contracts of open calls cite Found and Given and, through them, Surface. Rims serves inner contracts only, and so
-- does `Maps` of Found. Table has results by computation.
pub mod Surface
pub mod Rims
pub mod Found
pub mod Given
pub mod Table
