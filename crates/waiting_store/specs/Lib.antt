pub mod Entries
pub mod Posts
pub mod Promises
pub mod Passes
pub mod Written
