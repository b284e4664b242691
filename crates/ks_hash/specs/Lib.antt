pub mod Murmur2
pub mod Murmur3
pub mod Partition
pub mod Bounded
