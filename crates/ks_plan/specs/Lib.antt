pub mod Drafts
pub mod Plan
pub mod Layout
pub mod Places
pub mod Infos
pub mod Faults
pub mod Shape
