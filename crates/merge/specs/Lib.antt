pub mod Merge
pub mod Laws
pub mod Views
pub mod Trials
