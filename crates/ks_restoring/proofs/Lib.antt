pub mod Latest
pub mod Laid
