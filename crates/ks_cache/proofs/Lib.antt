pub mod Overlaid
pub mod Entries
pub mod Prefixes
pub mod NoChangelog
pub mod Taking
