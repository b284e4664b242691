pub mod Rested
pub mod Logged
pub mod Laws
