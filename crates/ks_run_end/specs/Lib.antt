pub mod Tails
pub mod Ends
