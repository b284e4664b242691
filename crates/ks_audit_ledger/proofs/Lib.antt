pub mod Noting
pub mod Offsetting
pub mod Naming
pub mod Keeping
