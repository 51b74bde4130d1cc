pub mod Events
pub mod Bodies
pub mod Said
pub mod Questions
pub mod Spelled
pub mod State
