pub mod Known
pub mod Halves
