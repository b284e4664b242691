pub mod Beginning
pub mod Crashing
pub mod Performed
pub mod Shown
pub mod Turning
pub mod Taken
pub mod Summing
pub mod Left
