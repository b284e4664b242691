pub mod Judging
pub mod Sorting
pub mod Showing
pub mod Layouts
pub mod Shaping
pub mod Lines
pub mod Crossing
