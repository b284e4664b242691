pub mod Rules
pub mod Walks
pub mod Found
pub mod Numbers
pub mod Sections
pub mod Commands
pub mod Asks
