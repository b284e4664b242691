pub mod Runs
pub mod Sums
pub mod Takes
pub mod Readers
pub mod Tables
