pub mod Lists
pub mod Stores
pub mod Counts
pub mod Kept
pub mod KeptDecoded
pub mod Windows
pub mod WindowsDecoded
