pub mod Members
pub mod Ready
pub mod Working
pub mod Left
pub mod Asking
pub mod Asked
pub mod Lending
