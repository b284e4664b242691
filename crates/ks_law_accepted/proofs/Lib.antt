pub mod Placed
pub mod Rows
pub mod Tables
pub mod Ends
pub mod Accepted
pub mod NodeNames
pub mod Words
pub mod Inputs
