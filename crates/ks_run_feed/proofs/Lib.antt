pub mod Feeds
pub mod Fresh
pub mod Produced
