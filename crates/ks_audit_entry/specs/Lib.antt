pub mod Conditions
pub mod Outcomes
