pub mod Each
pub mod RowPlaces
pub mod Pendings
