pub mod Adding
pub mod Scanning
pub mod Seen
pub mod Shelving
pub mod Turns
