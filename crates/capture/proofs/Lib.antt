-- What the proofs of several functions use.
pub mod ReportLaws
pub mod Theorems
