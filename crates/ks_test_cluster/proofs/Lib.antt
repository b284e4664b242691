pub mod Requests
pub mod Expired
pub mod Good
