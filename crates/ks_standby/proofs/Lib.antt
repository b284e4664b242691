pub mod Feeding
pub mod Shelving
pub mod Summing
