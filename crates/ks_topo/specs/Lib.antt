pub mod Finds
pub mod Earlier
pub mod Built
pub mod Topologies
pub mod WellFormed
pub mod Places
