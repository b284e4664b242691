pub mod Merging
pub mod Resting
pub mod Failing
pub mod Behind
pub mod Logging
pub mod Ending
