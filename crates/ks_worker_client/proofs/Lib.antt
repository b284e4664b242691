pub mod Called
pub mod Halting
pub mod Moments
