-- The contracts of the open calls cite both: `plan` cites Plan, `angle` and `sample_point` cite Sample and through it
-- Plan.
pub mod Plan
pub mod Sample
