pub mod Feeding
pub mod Producing
pub mod Placing
pub mod Wanted
