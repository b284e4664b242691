pub mod OfKind
pub mod Fitting
pub mod Hashes
