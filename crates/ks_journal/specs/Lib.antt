pub mod Lines
pub mod Replies
pub mod Fits
pub mod Reading
