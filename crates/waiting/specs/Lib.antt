pub mod Waiting
pub mod Records
pub mod Answers
pub mod Laws
