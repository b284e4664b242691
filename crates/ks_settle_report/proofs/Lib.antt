pub mod Settling
pub mod Found
pub mod LeftSides
pub mod OnePass
pub mod SpelledRows
