pub mod Orders
pub mod Walks
pub mod Judge
pub mod Points
