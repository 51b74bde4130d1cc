-- What the proofs of several functions use.
pub mod DecimalLaws
pub mod PutLaws
pub mod Theorems
