pub mod View
pub mod Rows
pub mod Stores
pub mod Notes
