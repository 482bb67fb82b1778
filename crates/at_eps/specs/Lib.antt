-- No contract cites these: Before has the calls as they were before they took tolerances, AtEps says what EPS gives.
pub mod Before
pub mod AtEps
