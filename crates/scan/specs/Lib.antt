pub mod Answer
pub mod Logs
