pub mod Drained
pub mod Fetches
pub mod Reading
pub mod Restoring
pub mod Restored
pub mod Picking
pub mod Rows
pub mod Windows
