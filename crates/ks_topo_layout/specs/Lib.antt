pub mod Resolve
pub mod Wired
