pub mod Beginning
pub mod Acts
pub mod Running
pub mod Turns
pub mod View
pub mod Left
