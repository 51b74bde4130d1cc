-- What the proofs of several functions use.
pub mod MarkLaws
pub mod PointLaws
