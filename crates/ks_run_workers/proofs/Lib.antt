pub mod Enlisted
pub mod Turned
pub mod LockPasses
pub mod Left
pub mod AskedBeside
pub mod AskedOften
pub mod TakenLast
