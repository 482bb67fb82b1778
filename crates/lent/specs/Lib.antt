-- Every open call with lent lists cites Lent; of it `zeroed_from` serves inner contracts only.
pub mod Lent
