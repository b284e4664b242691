pub mod Labels
pub mod Nodes
pub mod Topology
pub mod Stated
pub mod Exprs
pub mod Tests
pub mod Foreign
