pub mod Audited
pub mod Lines
pub mod Places
pub mod Faults
pub mod Texts
pub mod Answers
