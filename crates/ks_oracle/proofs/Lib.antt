pub mod Lists
pub mod Founds
pub mod Plans
pub mod Trees
pub mod Windows
