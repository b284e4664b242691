pub mod Inputs
pub mod Picking
pub mod Feeds
pub mod Telling
pub mod Works
pub mod Told
pub mod Ends
