pub mod Spells
pub mod Stores
pub mod Arriving
pub mod Values
pub mod Made
pub mod Kept
pub mod Plans
pub mod Hashes
