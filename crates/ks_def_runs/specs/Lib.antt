pub mod Run
pub mod FinMap
pub mod Table
pub mod Bytes
pub mod Prefixes
pub mod Pairs
