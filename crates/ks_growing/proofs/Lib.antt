pub mod Each
pub mod Ends
pub mod Lists
pub mod SeatSteps
pub mod TurnSteps
pub mod Views
