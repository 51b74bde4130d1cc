pub mod BuffersKept
pub mod Calls
pub mod Demands
pub mod FinderAccepted
pub mod FromFile
pub mod InWords
pub mod PastCount
