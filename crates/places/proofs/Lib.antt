-- What the proofs of several functions use.
pub mod MemberLaws
pub mod SetLaws
pub mod StateLaws
pub mod FactLaws
pub mod LookupLaws
pub mod PlaceLaws
