pub mod Nodes
pub mod Found
pub mod Printing
pub mod Hops
pub mod Trees
