pub mod Table
pub mod Answers
pub mod Laws
pub mod Trials
pub mod Repeats
pub mod Checked16
pub mod With16
pub mod Without16
