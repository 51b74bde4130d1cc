pub mod Cases
pub mod Worked
