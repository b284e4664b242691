pub mod Law
pub mod Keeping
pub mod Appended
pub mod Example
