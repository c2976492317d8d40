pub mod Laws
pub mod RepeatsLaws
pub mod TableLaws
pub mod TrialsLaws
pub mod Without16Laws
