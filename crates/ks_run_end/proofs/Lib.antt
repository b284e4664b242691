pub mod Drained
pub mod Told
