pub mod Passing
pub mod Outputs
pub mod Feeding
pub mod Ending
pub mod Answering
