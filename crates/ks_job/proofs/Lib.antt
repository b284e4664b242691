pub mod Cuts
pub mod Whole
pub mod Ends
pub mod Joined
pub mod Fronts
pub mod Crossed
pub mod PlainLine
