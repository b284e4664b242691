pub mod Naming
pub mod Ends
pub mod Comparing
pub mod Taking
pub mod Judging
