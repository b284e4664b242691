pub mod Windows
pub mod Streams
pub mod Aggregates
pub mod Query
pub mod Grace
pub mod Printed
pub mod Laws
