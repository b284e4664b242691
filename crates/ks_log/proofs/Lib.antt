pub mod Logs
pub mod Counting
pub mod Parts
pub mod Cuts
pub mod Pairs
