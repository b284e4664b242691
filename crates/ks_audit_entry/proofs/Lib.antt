pub mod Tested
pub mod Replays
