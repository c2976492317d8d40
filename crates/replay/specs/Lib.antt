pub mod Dump
pub mod DumpLaws
pub mod Session
pub mod SessionLaws
pub mod SpokenLaws
pub mod Promises
pub mod TurnLaws
