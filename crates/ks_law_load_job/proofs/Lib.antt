pub mod Clean
pub mod Trees
pub mod Readings
pub mod Counting
pub mod Lines
pub mod Topology
pub mod WholeJob
pub mod Valid
