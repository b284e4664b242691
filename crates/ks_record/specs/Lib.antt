pub mod Parts
pub mod Records
pub mod Payloads
pub mod Texts
pub mod Bytes
