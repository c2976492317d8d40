pub mod Laws
pub mod RecordLaws
pub mod ReturnsLaws
