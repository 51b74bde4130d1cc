pub mod Without
pub mod Notes
