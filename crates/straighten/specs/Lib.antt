pub mod Straight
pub mod Answer
pub mod Tables
pub mod Words
