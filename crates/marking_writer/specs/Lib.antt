pub mod Points
pub mod Whole
