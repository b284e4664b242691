pub mod Opens
pub mod Once
