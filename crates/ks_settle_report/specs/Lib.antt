pub mod Report
pub mod Partitions
pub mod Joins
pub mod Search
pub mod Hashed
