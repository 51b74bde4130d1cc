pub mod File
pub mod State
