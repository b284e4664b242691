pub mod Folded
pub mod Jobs
pub mod Collision
pub mod Replayed
pub mod Settled
pub mod Routes
pub mod InTime
