pub mod Premises
pub mod Outcomes
pub mod Outputs
pub mod Underway
pub mod Ends
pub mod Leaves
