-- What callers know of tests that stand one after the other.
pub mod Laws
