pub mod Gained
pub mod Names
pub mod Restoring
pub mod Standbys
pub mod Tasks
pub mod Topology
pub mod Worker
pub mod State
