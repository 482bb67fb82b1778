-- The theorem of specs/AtEps.antt.
pub mod Same
