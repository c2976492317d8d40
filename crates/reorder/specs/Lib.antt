pub mod Demand
pub mod Ideal
