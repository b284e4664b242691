pub mod Projecting
pub mod Fronts
pub mod Refs
