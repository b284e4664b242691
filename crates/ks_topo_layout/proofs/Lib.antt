pub mod Resolving
pub mod Tasks
