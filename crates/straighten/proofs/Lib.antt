-- What the proofs of several functions use, and the theorems.
pub mod TableLaws
pub mod PointLaws
pub mod StraightLaws
pub mod RuleLaws
pub mod MoveLaws
pub mod VerdictLaws
pub mod AnswerLaws
pub mod Theorems
