pub mod RowAgain
pub mod Ended
