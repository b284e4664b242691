pub mod Items
pub mod Lines
pub mod Plain
pub mod Reader
pub mod Cut
pub mod ByLines
pub mod Phases
