pub mod Contents
pub mod Readings
pub mod Items
