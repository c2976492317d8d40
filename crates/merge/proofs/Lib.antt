pub mod AnswersLaws
pub mod Laws
pub mod TrialsLaws
