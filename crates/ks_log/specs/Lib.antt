pub mod Written
pub mod Index
pub mod Reading
pub mod Appending
pub mod Places
