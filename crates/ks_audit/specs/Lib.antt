pub mod Audited
pub mod Inputs
pub mod Playing
pub mod Entries
pub mod Audits
