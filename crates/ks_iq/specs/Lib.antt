pub mod Asks
pub mod Codes
pub mod Places
pub mod Reads
pub mod Readers
pub mod Answered
