pub mod Ours
pub mod Stages
pub mod Table
