pub mod Blocks
pub mod Decimals
pub mod Utf8
pub mod Ties
