pub mod Lists
pub mod Filled
pub mod Bits
