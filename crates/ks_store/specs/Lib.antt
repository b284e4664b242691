pub mod Restored
pub mod Pairs
pub mod Groups
pub mod Rows
pub mod Calls
pub mod Hashing
pub mod ShortKeys
