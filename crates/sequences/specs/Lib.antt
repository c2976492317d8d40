pub mod Sequences
pub mod View
pub mod Promises
