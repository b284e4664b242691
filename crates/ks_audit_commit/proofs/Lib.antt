pub mod Takes
pub mod Runs
pub mod Naming
pub mod Ordered
pub mod Compared
pub mod Ending
pub mod Judged
pub mod Fresh
