pub mod LogLaws
pub mod TableLaws
pub mod RegisterLaws
pub mod WriteLaws
