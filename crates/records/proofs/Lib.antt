-- What the proofs of this crate share.
pub mod Flattening
pub mod Refused
