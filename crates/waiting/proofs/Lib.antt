pub mod Laws
pub mod LimitsLaws
pub mod RecordsLaws
