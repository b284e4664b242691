pub mod Put
pub mod Floats
pub mod Pointwise
pub mod Members
