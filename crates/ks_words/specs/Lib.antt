pub mod Grammar
pub mod Parser
pub mod Load
pub mod Ranges
