pub mod AgreeLaws
pub mod InstanceLaws
pub mod LimitLaws
pub mod ProofLaws
pub mod ReorderLaws
pub mod IdealLaws
