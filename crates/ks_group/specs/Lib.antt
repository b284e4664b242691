pub mod Committed
pub mod Group
pub mod Held
pub mod Pending
pub mod New
pub mod Places
