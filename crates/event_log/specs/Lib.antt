pub mod Columns
pub mod Starts
pub mod Checked
pub mod Answer
pub mod Lent
pub mod Rows
pub mod Calls
