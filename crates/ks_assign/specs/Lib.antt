pub mod Lag
pub mod Placement
pub mod Rows
pub mod Steps
