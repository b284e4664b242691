pub mod Calls
pub mod Own
pub mod Shelf
pub mod Reserved
