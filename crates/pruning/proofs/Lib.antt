-- What the proofs of several functions use.
pub mod EffectLaws
pub mod RunLaws
pub mod HopeLaws
pub mod OrphanLaws
pub mod UnwrittenLaws
