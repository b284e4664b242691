pub mod Going
pub mod Pairing
