pub mod Alone
pub mod Grouping
pub mod Places
pub mod Subs
