pub mod KeptLaws
pub mod Moved
pub mod Without
pub mod Theorems
pub mod LeftOut
pub mod NextLaws
pub mod NoteLaws
