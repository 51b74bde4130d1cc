pub mod ListLaws
pub mod FilledLaws
pub mod BitLaws
