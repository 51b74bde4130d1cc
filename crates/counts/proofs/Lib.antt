-- What the proofs of several functions use.
pub mod TallyLaws
pub mod Theorems
pub mod Ends
pub mod SaidLaws
