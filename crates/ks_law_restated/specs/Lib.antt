pub mod Drops
pub mod Connected
pub mod Topics
