pub mod FitLaws
pub mod WalkLaws
pub mod RowLaws
pub mod AnswerLaws
pub mod OpeningLaws
pub mod FirstEdition
pub mod SaidLaws
