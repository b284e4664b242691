pub mod Work
pub mod Placing
pub mod Spelled
pub mod Order
pub mod Projections
pub mod WellFormed
pub mod Taken
