pub mod Numbers
pub mod Files
pub mod Refusals
pub mod Bounds
