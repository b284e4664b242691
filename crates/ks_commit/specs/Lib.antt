pub mod Numbers
pub mod Everything
pub mod Work
pub mod Alone
pub mod Sending
pub mod Committed
