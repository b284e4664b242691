pub mod Windows
pub mod Nodes
pub mod Records
pub mod Stored
pub mod Reach
