pub mod Universe
pub mod Sequence
pub mod Age
pub mod Bytes
pub mod Cid
pub mod Answer
