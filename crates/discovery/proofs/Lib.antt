pub mod ExpiryLaws
pub mod KeptLaws
pub mod Laws
pub mod TrialsLaws
