pub mod Items
pub mod Changes
pub mod Values
