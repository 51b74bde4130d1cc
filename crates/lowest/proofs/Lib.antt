-- What the proofs of several functions use, here and in the crates above.
pub mod Meaning
pub mod ReadMeaning
pub mod ReadSets
pub mod LookupLink
pub mod TreeLink
pub mod FitsLink
pub mod Link
pub mod GoodHistory
pub mod EndMeaning
pub mod JudgedLaws
