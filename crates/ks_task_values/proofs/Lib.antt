pub mod LiveValues
pub mod Staying
pub mod Compared
