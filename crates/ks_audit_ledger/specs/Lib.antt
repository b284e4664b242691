pub mod Accounts
pub mod Offsets
pub mod Kept
pub mod Ledgers
