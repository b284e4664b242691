pub mod Looking
pub mod Asking
pub mod Capping
pub mod Quiet
