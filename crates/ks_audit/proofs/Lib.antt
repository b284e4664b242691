pub mod Topics
pub mod Records
pub mod Judged
pub mod Resting
pub mod Keeping
pub mod Playing
pub mod Going
pub mod Beginning
