pub mod Dropping
pub mod Totals
pub mod Labels
pub mod Numbers
pub mod WellFormed
pub mod Places
