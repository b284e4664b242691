pub mod States
pub mod Tables
pub mod Groups
pub mod AtRest
pub mod Streams
pub mod Windows
pub mod ForeignJoin
