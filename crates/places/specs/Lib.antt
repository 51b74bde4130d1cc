pub mod Facts
pub mod Sets
pub mod Places
pub mod State
pub mod Tree
pub mod Told
pub mod Choice
