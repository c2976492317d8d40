pub mod AdmitLaws
pub mod CallsLaws
