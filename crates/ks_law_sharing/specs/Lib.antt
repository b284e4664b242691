pub mod Others
pub mod Tasks
pub mod Refusals
