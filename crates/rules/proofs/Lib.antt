pub mod Numbers
pub mod OrderLaws
pub mod WalkLaws
pub mod JudgeLaws
pub mod EventLaws
