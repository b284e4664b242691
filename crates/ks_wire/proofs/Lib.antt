pub mod Wide
pub mod Wired
