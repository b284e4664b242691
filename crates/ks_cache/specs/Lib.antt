pub mod Lists
pub mod Cached
pub mod Kept
pub mod Holdings
pub mod Calls
pub mod Changelogs
