pub mod ParkedPairs
pub mod Replies
pub mod Moves
pub mod Placed
pub mod View
pub mod Statuses
