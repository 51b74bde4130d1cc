pub mod Answer
pub mod Words
pub mod Logs
